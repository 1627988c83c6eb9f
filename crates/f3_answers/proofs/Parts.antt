-- The parts of instructions that any answers of a heap can follow.
use Rattle.std.proofs.Common.{ℕ, zero, suc, ℤ, pos, negsuc, Bool, List, [], ◌∷◌, Option, None, Some}
use Rattle.std.specs.Prelude.{int_le, ◌-ℤ◌, ◌||◌, nat_lt}
use Rattle.f3_places.specs.declared.source.Place.{Place}
use Rattle.f3_program.specs.declared.declarations.Base.{Base}
use Rattle.f3_program.specs.declared.declarations.Declared.{Declared}
use Rattle.f3_program.specs.declared.expression.BinaryOperator.{BinaryOperator}
use Rattle.f3_program.specs.declared.expression.BinaryOperator.TheVariants as o
use Rattle.f3_program.specs.declared.expression.UnaryOperator as c
use Rattle.f3_program.specs.declared.expression.UnaryOperator.TheVariants.{Negate, Absolute, Not}
use Rattle.f3_program.specs.declared.expression.Name.{Name}
use Rattle.f3_program.specs.declared.expression.Name.TheVariants as n
use Rattle.f3_program.specs.declared.expression.Query.{Query}
use Rattle.f3_meaning_whole.specs.Value.{Span, Value, Array, Unallocated, Allocated, number_of, listed, conforms, shown, count}
use Rattle.f3_meaning_whole.specs.Reference.{Reach, One, Many, Reference, is_pinned}
use Rattle.f3_meaning_whole.specs.declared.run_error.RunError.{RunError}
use Rattle.f3_meaning_whole.specs.Arithmetic.{converted, value_fits, divided, is_zero, power, apply, change_of}
use Rattle.f3_meaning_whole.specs.Shape.{Parts, nothing, and, spans_declared}
use Rattle.f3_meaning_whole.specs.Act.{Setting, Here, Passed, Given, Lent, Calls, claim, claim_for, needs_storage, named, opened, contents_by, contents, read, Chosen, some_zero_step, all_inside, places, picks, picks_in_each, fitted, fitted_contents, fitted_argument, structure, passed_at}
use Rattle.f3_meaning_whole.specs.Eval.{result, built, asked}
use Rattle.f3_meaning_whole.specs.Exec.{text_of, print_value, request, too_many, unless_zero, take_over}
use Rattle.f3_code.specs.Exec.{allocate}
use Rattle.f3_code.specs.Machine.{begun, opens, checked, tested, selects}
use Rattle.f3_answers.proofs.Regular.{Regular, gives_regular, fails_regular, looks_regular, does_regular, asks_regular, prints_regular, bind_regular, if_regular, each_regular}

pub converted_regular : (t : Base) (v : Value) (place : Place) → Regular (converted t v place)
unfolding converted
converted_regular t v place = if_regular (value_fits t v) (gives_regular v) (fails_regular _ place)

divided_regular : (y : ℤ) (t : Base) (z : ℤ) (place : Place) → Regular (divided y t z place)
unfolding divided
divided_regular y t z place = if_regular (is_zero y) (fails_regular _ place) (converted_regular t _ place)

power_regular : (x y : ℤ) (t : Base) (place : Place) → Regular (power x y t place)
power_regular x (pos n) t place = converted_regular t _ place
power_regular (pos zero) (negsuc n) t place = fails_regular _ place
power_regular (pos (suc zero)) (negsuc n) t place = gives_regular _
power_regular (pos (suc (suc x))) (negsuc n) t place = gives_regular _
power_regular (negsuc zero) (negsuc n) t place = gives_regular _
power_regular (negsuc (suc x)) (negsuc n) t place = gives_regular _

pub apply_regular : (op : BinaryOperator) (t : Base) (x y : Value) (place : Place) → Regular (apply op t x y place)
apply_regular o.Add t x y place = converted_regular t _ place
apply_regular o.Subtract t x y place = converted_regular t _ place
apply_regular o.Multiply t x y place = converted_regular t _ place
apply_regular o.Divide t x y place = divided_regular _ t _ place
apply_regular o.Power t x y place = power_regular (number_of x) (number_of y) t place
apply_regular o.Mod t x y place = divided_regular _ t _ place
apply_regular o.Modulo t x y place = divided_regular _ t _ place
apply_regular op t x y place = gives_regular _

pub change_regular : (op : c.UnaryOperator) (t : Base) (x : Value) (place : Place) → Regular (change_of op t x place)
change_regular Negate t x place = converted_regular t _ place
change_regular Absolute t x place = converted_regular t _ place
change_regular Not t x place = gives_regular _

pub claim_regular : (here : Here) → Regular (claim here)
claim_regular here = bind_regular asks_regular (λ b. if_regular b (fails_regular _ here.place) (gives_regular tt))

pub claim_for_regular : (v : Value) (here : Here) → Regular (claim_for v here)
claim_for_regular v here = if_regular (needs_storage v) (claim_regular here) (gives_regular tt)

pub built_regular : (v : Value) (here : Here) → Regular (built v here)
built_regular v here = bind_regular (claim_for_regular v here) (λ done. gives_regular v)

pub read_regular : (r : Reference) (here : Here) → Regular (read r here)
read_regular r here = bind_regular (looks_regular _) (λ v. bind_regular (claim_for_regular v here) (λ done. gives_regular v))

pub print_regular : (v : Value) → Regular (print_value v)
print_regular (Array ss vs) = each_regular (listed vs) (λ v. prints_regular (text_of v))
print_regular v = prints_regular _

places_regular : (ss : List Span) (cs : List Chosen) (here : Here) → Regular (places ss cs here)
places_regular ss cs here = if_regular (some_zero_step cs) (fails_regular _ here.place) (if_regular (all_inside ss cs) (gives_regular _) (fails_regular _ here.place))

picks_regular : (r : Reference) (reach : Reach) (cs : List Chosen) (here : Here) → Regular (picks r reach cs here)
picks_regular r One cs here = gives_regular r
picks_regular r (Many ss ps) cs here = bind_regular (places_regular ss cs here) (λ ks. gives_regular _)

pub picks_in_each_regular : (ss : List Span) (r : Reference) (cs : List Chosen) (here : Here) → Regular (picks_in_each ss r cs here)
picks_in_each_regular ss r cs here = bind_regular (places_regular ss cs here) (λ ks. gives_regular _)

pub named_regular : (g : Setting) (x : Name) (here : Here) → Regular (named g x here)
named_regular g (n.Static i) here = looks_regular _
named_regular g (n.Local i) here = looks_regular _
named_regular g (n.Lent i) here = gives_regular _

opened_regular : (r : Reference) (v : Value) (here : Here) → Regular (opened r v here)
opened_regular r (Allocated v) here = gives_regular _
opened_regular r v here = fails_regular _ here.place

contents_by_regular : (reach : Reach) (r : Reference) (here : Here) → Regular (contents_by reach r here)
contents_by_regular One r here = bind_regular (looks_regular _) (λ v. opened_regular r v here)
contents_by_regular (Many ss ps) r here = fails_regular _ here.place

pub contents_regular : (r : Reference) (here : Here) → Regular (contents r here)
contents_regular r here = contents_by_regular r.reach r here

pub opens_regular : (r : Reference) (here : Here) → Regular (opens r here)
opens_regular r here = if_regular (is_pinned r.path here.lent) (fails_regular _ here.place) (contents_regular r here)

pub selects_regular : (is_opened : Bool) (cs : List Chosen) (r : Reference) (here : Here) → Regular (selects is_opened cs r here)
selects_regular is_opened cs r here = bind_regular (if_regular is_opened (contents_regular r here) (gives_regular r)) (λ q. picks_regular q q.reach cs here)

pub result_regular : (v : Value) (here : Here) → Regular (result v here)
result_regular Unallocated here = fails_regular _ here.place
result_regular v here = gives_regular _

pub asked_regular : (q : Query) (ss : List Span) (z : ℤ) (here : Here) → Regular (asked q ss z here)
asked_regular q [] z here = fails_regular _ here.place
asked_regular q (s ∷ ss) z here = if_regular (int_le z (pos 0)) (fails_regular _ here.place) (if_regular (int_le z (pos 1)) (converted_regular _ _ here.place) (asked_regular q ss (z -ℤ pos 1) here))

fitted_regular : (d : Declared) (v : Value) (here : Here) → Regular (fitted d v here)
unfolding fitted
fitted_regular d v here =
    if_regular d.kind.is_allocatable (bind_regular (converted_regular d.kind.of v here.place) (λ v. gives_regular _))
    (if_regular (conforms (spans_declared d.dimensions.items) v) (bind_regular (converted_regular d.kind.of v here.place) (λ v. gives_regular _)) (fails_regular _ here.place))

fitted_contents_regular : (d : Declared) (v : Value) (here : Here) → Regular (fitted_contents d v here)
fitted_contents_regular d (Allocated (Array ss vs)) here = fitted_regular d (Array (shown ss) vs) here
fitted_contents_regular d (Allocated v) here = fitted_regular d v here
fitted_contents_regular d v here = gives_regular _

fitted_argument_regular : (d : Declared) (i : Value) (o : Option Passed) (here : Here) → Regular (fitted_argument d i o here)
fitted_argument_regular d i None here = gives_regular i
fitted_argument_regular d i (Some (Given k v)) here = fitted_regular d v here
fitted_argument_regular d i (Some (Lent k r)) here = bind_regular (looks_regular _) (λ v. fitted_contents_regular d v here)

pub structure_regular : (xs : Parts) (k : ℕ) (ps : List Passed) (here : Here) → Regular (structure xs k ps here)
structure_regular nothing k ps here = gives_regular _
structure_regular (and c s rest) k ps here =
    bind_regular (fitted_argument_regular c.declared _ (passed_at k ps) here) (λ v. bind_regular (claim_for_regular v here) (λ done. bind_regular (structure_regular rest (suc k) ps here) (λ vs. gives_regular _)))

request_regular : Regular request
request_regular = bind_regular asks_regular (λ b. bind_regular (does_regular _) (λ done. gives_regular b))

pub allocate_regular : (rank : ℕ) (element : Value) (h : Reference) (ss : List Span) (here : Here) → Regular (allocate rank element h ss here)
allocate_regular rank element h ss here = bind_regular (looks_regular _) (λ already. if_regular already (gives_regular _)
    (if_regular (too_many ss || nat_lt 16777216 (count ss)) (gives_regular _)
    (bind_regular request_regular (λ refused. if_regular refused (gives_regular _) (bind_regular (does_regular _) (λ done. gives_regular _))))))

pub unless_regular : (z : ℤ) (here : Here) → Regular (unless_zero z here)
unless_regular z here = if_regular (is_zero z) (fails_regular _ here.place) (gives_regular tt)

pub take_over_regular : (g : Setting) (k : ℕ) (calls : Calls) (from to : Reference) (v : Value) (here : Here) → Regular (take_over g k calls from to v here)
take_over_regular g k calls from to (Allocated v) here = if_regular (is_pinned from.path here.lent) (fails_regular _ here.place) (bind_regular (does_regular _) (λ done. does_regular _))
take_over_regular g k calls from to v here = gives_regular tt

pub begun_regular : (ps : List Passed) (initial : List Value) (here : Here) → Regular (begun ps initial here)
begun_regular ps initial here = bind_regular (claim_regular here) (λ done. bind_regular (looks_regular _) (λ level. bind_regular (does_regular _) (λ done. bind_regular (does_regular _) (λ done. gives_regular level))))

pub checked_regular : (x : Option RunError) (here : Here) → Regular (checked x here)
checked_regular None here = gives_regular tt
checked_regular (Some error) here = fails_regular error here.place

pub tested_regular : (b : Bool) (error : RunError) (here : Here) → Regular (tested b error here)
tested_regular b error here = if_regular b (gives_regular tt) (fails_regular error here.place)
