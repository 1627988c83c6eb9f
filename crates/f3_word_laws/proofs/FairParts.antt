-- The parts of instructions that do not fail for want of room where the heap grants all that is asked.
use Rattle.std.proofs.Common.{ℕ, zero, suc, ℤ, pos, negsuc, Bool, List, [], ◌∷◌, Option, None, Some}
use Rattle.std.specs.Prelude.{int_le, ◌-ℤ◌}
use Rattle.f3_places.specs.declared.source.Place.{Place}
use Rattle.f3_program.specs.declared.declarations.Base.{Base}
use Rattle.f3_program.specs.declared.declarations.Declared.{Declared}
use Rattle.f3_program.specs.declared.expression.BinaryOperator.{BinaryOperator}
use Rattle.f3_program.specs.declared.expression.BinaryOperator.TheVariants as o
use Rattle.f3_program.specs.declared.expression.UnaryOperator as c
use Rattle.f3_program.specs.declared.expression.UnaryOperator.TheVariants.{Negate, Absolute, Not}
use Rattle.f3_program.specs.declared.expression.Name.{Name}
use Rattle.f3_program.specs.declared.expression.Name.TheVariants as n
use Rattle.f3_program.specs.declared.expression.Query.{Query}
use Rattle.f3_meaning_whole.specs.Value.{Span, Value, Array, Unallocated, Allocated, number_of, listed, conforms, shown}
use Rattle.f3_meaning_whole.specs.Reference.{Reach, One, Many, Reference}
use Rattle.f3_meaning_whole.specs.declared.run_error.RunError.{RunError}
use Rattle.f3_meaning_whole.specs.Arithmetic.{converted, value_fits, divided, is_zero, power, apply, change_of}
use Rattle.f3_meaning_whole.specs.Shape.{Parts, nothing, and, spans_declared}
use Rattle.f3_meaning_whole.specs.Act.{Setting, Here, Passed, Given, Lent, claim_for, needs_storage, named, opened, contents_by, contents, read, Chosen, some_zero_step, all_inside, places, picks, picks_in_each, fitted, fitted_contents, fitted_argument, structure, passed_at}
use Rattle.f3_meaning_whole.specs.Eval.{result, built, asked}
use Rattle.f3_meaning_whole.specs.Exec.{text_of, print_value, unless_zero}
use Rattle.f3_code.specs.Machine.{begun, tested, selects}
use Rattle.f3_word_laws.proofs.Fair.{Fair, IsOther, gives_fair, fails_fair, looks_fair, does_fair, prints_fair, bind_fair, if_fair, each_fair, claim_fair}

pub converted_fair : (t : Base) (v : Value) (place : Place) → Fair (converted t v place)
unfolding converted
converted_fair t v place = if_fair (value_fits t v) (gives_fair v) (fails_fair _ place tt)

divided_fair : (y : ℤ) (t : Base) (z : ℤ) (place : Place) → Fair (divided y t z place)
unfolding divided
divided_fair y t z place = if_fair (is_zero y) (fails_fair _ place tt) (converted_fair t _ place)

power_fair : (x y : ℤ) (t : Base) (place : Place) → Fair (power x y t place)
power_fair x (pos n) t place = converted_fair t _ place
power_fair (pos zero) (negsuc n) t place = fails_fair _ place tt
power_fair (pos (suc zero)) (negsuc n) t place = gives_fair _
power_fair (pos (suc (suc x))) (negsuc n) t place = gives_fair _
power_fair (negsuc zero) (negsuc n) t place = gives_fair _
power_fair (negsuc (suc x)) (negsuc n) t place = gives_fair _

pub apply_fair : (op : BinaryOperator) (t : Base) (x y : Value) (place : Place) → Fair (apply op t x y place)
apply_fair o.Add t x y place = converted_fair t _ place
apply_fair o.Subtract t x y place = converted_fair t _ place
apply_fair o.Multiply t x y place = converted_fair t _ place
apply_fair o.Divide t x y place = divided_fair _ t _ place
apply_fair o.Power t x y place = power_fair (number_of x) (number_of y) t place
apply_fair o.Mod t x y place = divided_fair _ t _ place
apply_fair o.Modulo t x y place = divided_fair _ t _ place
apply_fair op t x y place = gives_fair _

pub change_fair : (op : c.UnaryOperator) (t : Base) (x : Value) (place : Place) → Fair (change_of op t x place)
change_fair Negate t x place = converted_fair t _ place
change_fair Absolute t x place = converted_fair t _ place
change_fair Not t x place = gives_fair _

pub claim_for_fair : (v : Value) (here : Here) → Fair (claim_for v here)
claim_for_fair v here = if_fair (needs_storage v) (claim_fair here) (gives_fair tt)

pub built_fair : (v : Value) (here : Here) → Fair (built v here)
built_fair v here = bind_fair (claim_for_fair v here) (λ done. gives_fair v)

pub read_fair : (r : Reference) (here : Here) → Fair (read r here)
read_fair r here = bind_fair (looks_fair _) (λ v. bind_fair (claim_for_fair v here) (λ done. gives_fair v))

pub print_fair : (v : Value) → Fair (print_value v)
print_fair (Array ss vs) = each_fair (listed vs) (λ v. prints_fair (text_of v))
print_fair v = prints_fair _

places_fair : (ss : List Span) (cs : List Chosen) (here : Here) → Fair (places ss cs here)
places_fair ss cs here = if_fair (some_zero_step cs) (fails_fair _ here.place tt) (if_fair (all_inside ss cs) (gives_fair _) (fails_fair _ here.place tt))

picks_fair : (r : Reference) (reach : Reach) (cs : List Chosen) (here : Here) → Fair (picks r reach cs here)
picks_fair r One cs here = gives_fair r
picks_fair r (Many ss ps) cs here = bind_fair (places_fair ss cs here) (λ ks. gives_fair _)

pub picks_in_each_fair : (ss : List Span) (r : Reference) (cs : List Chosen) (here : Here) → Fair (picks_in_each ss r cs here)
picks_in_each_fair ss r cs here = bind_fair (places_fair ss cs here) (λ ks. gives_fair _)

pub named_fair : (g : Setting) (x : Name) (here : Here) → Fair (named g x here)
named_fair g (n.Static i) here = looks_fair _
named_fair g (n.Local i) here = looks_fair _
named_fair g (n.Lent i) here = gives_fair _

opened_fair : (r : Reference) (v : Value) (here : Here) → Fair (opened r v here)
opened_fair r (Allocated v) here = gives_fair _
opened_fair r v here = fails_fair _ here.place tt

contents_by_fair : (reach : Reach) (r : Reference) (here : Here) → Fair (contents_by reach r here)
contents_by_fair One r here = bind_fair (looks_fair _) (λ v. opened_fair r v here)
contents_by_fair (Many ss ps) r here = fails_fair _ here.place tt

pub contents_fair : (r : Reference) (here : Here) → Fair (contents r here)
contents_fair r here = contents_by_fair r.reach r here

pub selects_fair : (is_opened : Bool) (cs : List Chosen) (r : Reference) (here : Here) → Fair (selects is_opened cs r here)
selects_fair is_opened cs r here = bind_fair (if_fair is_opened (contents_fair r here) (gives_fair r)) (λ q. picks_fair q q.reach cs here)

pub result_fair : (v : Value) (here : Here) → Fair (result v here)
result_fair Unallocated here = fails_fair _ here.place tt
result_fair v here = gives_fair _

pub asked_fair : (q : Query) (ss : List Span) (z : ℤ) (here : Here) → Fair (asked q ss z here)
asked_fair q [] z here = fails_fair _ here.place tt
asked_fair q (s ∷ ss) z here = if_fair (int_le z (pos 0)) (fails_fair _ here.place tt) (if_fair (int_le z (pos 1)) (converted_fair _ _ here.place) (asked_fair q ss (z -ℤ pos 1) here))

fitted_fair : (d : Declared) (v : Value) (here : Here) → Fair (fitted d v here)
unfolding fitted
fitted_fair d v here =
    if_fair d.kind.is_allocatable (bind_fair (converted_fair d.kind.of v here.place) (λ v. gives_fair _))
    (if_fair (conforms (spans_declared d.dimensions.items) v) (bind_fair (converted_fair d.kind.of v here.place) (λ v. gives_fair _)) (fails_fair _ here.place tt))

fitted_contents_fair : (d : Declared) (v : Value) (here : Here) → Fair (fitted_contents d v here)
fitted_contents_fair d (Allocated (Array ss vs)) here = fitted_fair d (Array (shown ss) vs) here
fitted_contents_fair d (Allocated v) here = fitted_fair d v here
fitted_contents_fair d v here = gives_fair _

fitted_argument_fair : (d : Declared) (i : Value) (o : Option Passed) (here : Here) → Fair (fitted_argument d i o here)
fitted_argument_fair d i None here = gives_fair i
fitted_argument_fair d i (Some (Given k v)) here = fitted_fair d v here
fitted_argument_fair d i (Some (Lent k r)) here = bind_fair (looks_fair _) (λ v. fitted_contents_fair d v here)

pub structure_fair : (xs : Parts) (k : ℕ) (ps : List Passed) (here : Here) → Fair (structure xs k ps here)
structure_fair nothing k ps here = gives_fair _
structure_fair (and c s rest) k ps here =
    bind_fair (fitted_argument_fair c.declared _ (passed_at k ps) here) (λ v. bind_fair (claim_for_fair v here) (λ done. bind_fair (structure_fair rest (suc k) ps here) (λ vs. gives_fair _)))

pub unless_fair : (z : ℤ) (here : Here) → Fair (unless_zero z here)
unless_fair z here = if_fair (is_zero z) (fails_fair _ here.place tt) (gives_fair tt)

pub begun_fair : (ps : List Passed) (initial : List Value) (here : Here) → Fair (begun ps initial here)
begun_fair ps initial here = bind_fair (claim_fair here) (λ done. bind_fair (looks_fair _) (λ level. bind_fair (does_fair _) (λ done. bind_fair (does_fair _) (λ done. gives_fair level))))

pub tested_fair : (b : Bool) (error : RunError) (here : Here) → IsOther error → Fair (tested b error here)
tested_fair b error here other = if_fair b (gives_fair tt) (fails_fair error here.place other)
