-- Parts of runs that need no turns of a loop.
use Rattle.std.proofs.Common.{ℕ, zero, suc, ℤ, pos, negsuc, Bool, List, [], ◌∷◌, Option, None, Some}
use Rattle.std.specs.Prelude.{⊤, int_le, ◌-ℤ◌, nat_lt, ◌||◌}
use Rattle.f3_places.specs.declared.source.Place.{Place}
use Rattle.f3_program.specs.declared.declarations.Base.{Base}
use Rattle.f3_program.specs.declared.declarations.Declared.{Declared}
use Rattle.f3_program.specs.declared.expression.BinaryOperator.{BinaryOperator}
use Rattle.f3_program.specs.declared.expression.BinaryOperator.TheVariants as o
use Rattle.f3_program.specs.declared.expression.UnaryOperator as c
use Rattle.f3_program.specs.declared.expression.UnaryOperator.TheVariants.{Negate, Absolute, Not}
use Rattle.f3_program.specs.declared.expression.Name.{Name}
use Rattle.f3_program.specs.declared.expression.Name.TheVariants as name
use Rattle.f3_program.specs.declared.expression.Query.{Query}
use Rattle.f3_meaning_whole.specs.Value.{Span, Value, Number, Truth, Composite, Array, Unallocated, Allocated, number_of, listed, conforms, shown, count}
use Rattle.f3_meaning_whole.specs.Reference.{Maker, Reach, One, Many, Reference, is_pinned}
use Rattle.f3_meaning_whole.specs.Ran.{Ran, prints_bytes, each}
use Rattle.f3_meaning_whole.specs.declared.run_error.RunError.{RunError}
use Rattle.f3_meaning_whole.specs.Arithmetic.{converted, value_fits, divided, is_zero, power, apply, change_of}
use Rattle.f3_meaning_whole.specs.Shape.{Parts, nothing, and, spans_declared}
use Rattle.f3_meaning_whole.specs.Act.{Setting, Here, Passed, Given, Lent, claim, claim_for, needs_storage, read, set, clear, begins, enter, leave, named, component, opened, contents, contents_by, Chosen, some_zero_step, all_inside, places, picks, picks_in_each, fitted, fitted_contents, fitted_argument, structure, passed_at}
use Rattle.f3_meaning_whole.specs.Eval.{result, built, asked, by_reach}
use Rattle.f3_meaning_whole.specs.Exec.{text_of, print_value, request, unless_zero, too_many, take_over}
use Rattle.f3_code.specs.Exec.{allocate}
use Rattle.f3_code.specs.Machine.{begun, opens, checked, tested, selects, no_calls}
use Rattle.f3_code_laws.proofs.Reaching.{Ends, bind_ends, gives_end, fails_end, looks_end, does_end, asks_end, if_ends}

pub converted_ends : (t : Base) (v : Value) (place : Place) → Ends (converted t v place)
unfolding converted
converted_ends t v place = if_ends (value_fits t v) (gives_end v) (fails_end _ place)

divided_ends : (y : ℤ) (t : Base) (z : ℤ) (place : Place) → Ends (divided y t z place)
unfolding divided
divided_ends y t z place = if_ends (is_zero y) (fails_end _ place) (converted_ends t _ place)

power_ends : (x y : ℤ) (t : Base) (place : Place) → Ends (power x y t place)
power_ends x (pos n) t place = converted_ends t _ place
power_ends (pos zero) (negsuc n) t place = fails_end _ place
power_ends (pos (suc zero)) (negsuc n) t place = gives_end _
power_ends (pos (suc (suc x))) (negsuc n) t place = gives_end _
power_ends (negsuc zero) (negsuc n) t place = gives_end _
power_ends (negsuc (suc x)) (negsuc n) t place = gives_end _

pub apply_ends : (op : BinaryOperator) (t : Base) (x y : Value) (place : Place) → Ends (apply op t x y place)
apply_ends o.Add t x y place = converted_ends t _ place
apply_ends o.Subtract t x y place = converted_ends t _ place
apply_ends o.Multiply t x y place = converted_ends t _ place
apply_ends o.Divide t x y place = divided_ends _ t _ place
apply_ends o.Power t x y place = power_ends (number_of x) (number_of y) t place
apply_ends o.Mod t x y place = divided_ends _ t _ place
apply_ends o.Modulo t x y place = divided_ends _ t _ place
apply_ends o.Max t x y place = gives_end _
apply_ends o.Min t x y place = gives_end _
apply_ends o.Equal t x y place = gives_end _
apply_ends o.NotEqual t x y place = gives_end _
apply_ends o.Less t x y place = gives_end _
apply_ends o.LessOrEqual t x y place = gives_end _
apply_ends o.Greater t x y place = gives_end _
apply_ends o.GreaterOrEqual t x y place = gives_end _
apply_ends o.And t x y place = gives_end _
apply_ends o.Or t x y place = gives_end _
apply_ends o.Equivalent t x y place = gives_end _
apply_ends o.NotEquivalent t x y place = gives_end _

pub change_ends : (op : c.UnaryOperator) (t : Base) (x : Value) (place : Place) → Ends (change_of op t x place)
change_ends Negate t x place = converted_ends t _ place
change_ends Absolute t x place = converted_ends t _ place
change_ends Not t x place = gives_end _

pub claim_ends : (here : Here) → Ends (claim here)
claim_ends here = bind_ends asks_end (λ b. if_ends b (fails_end _ here.place) (gives_end tt))

pub claim_for_ends : (v : Value) (here : Here) → Ends (claim_for v here)
claim_for_ends v here = if_ends (needs_storage v) (claim_ends here) (gives_end tt)

pub built_ends : (v : Value) (here : Here) → Ends (built v here)
built_ends v here = bind_ends (claim_for_ends v here) (λ done. gives_end v)

pub read_ends : (r : Reference) (here : Here) → Ends (read r here)
read_ends r here = bind_ends (looks_end _) (λ v. bind_ends (claim_for_ends v here) (λ done. gives_end v))

pub set_ends : (r : Reference) (v : Value) (here : Here) → Ends (set r v here)
set_ends r v here = does_end _

pub clear_ends : (r : Reference) (here : Here) → Ends (clear r here)
clear_ends r here = does_end _

pub begins_ends : (here : Here) → Ends (begins here)
begins_ends here = does_end _

pub enter_ends : (vs : List Value) → Ends (enter vs)
enter_ends vs = does_end _

pub leave_ends : (level : ℕ) → Ends (leave level)
leave_ends level = does_end _

pub printed_ends : (bytes : List ℕ) → Ends (prints_bytes bytes)
unfolding prints_bytes
printed_ends bytes = does_end _

pub each_ends : {A : Type 0} (xs : List A) (act : A → Ran ⊤) → ((x : A) → Ends (act x)) → Ends (each xs act)
each_ends [] act h = gives_end tt
each_ends (x ∷ xs) act h = bind_ends (h x) (λ done. each_ends xs act h)

pub print_ends : (v : Value) → Ends (print_value v)
print_ends (Array ss vs) = each_ends (listed vs) _ (λ v. printed_ends (text_of v))
print_ends (Number z) = printed_ends _
print_ends (Truth b) = printed_ends _
print_ends (Composite vs) = printed_ends _
print_ends Unallocated = printed_ends _
print_ends (Allocated v) = printed_ends _

pub result_ends : (v : Value) (here : Here) → Ends (result v here)
result_ends (Allocated v) here = gives_end _
result_ends Unallocated here = fails_end _ here.place
result_ends (Number z) here = gives_end _
result_ends (Truth b) here = gives_end _
result_ends (Composite vs) here = gives_end _
result_ends (Array ss vs) here = gives_end _

pub asked_ends : (q : Query) (ss : List Span) (z : ℤ) (here : Here) → Ends (asked q ss z here)
asked_ends q [] z here = fails_end _ here.place
asked_ends q (s ∷ ss) z here = if_ends (int_le z (pos 0)) (fails_end _ here.place)
    (if_ends (int_le z (pos 1)) (converted_ends _ _ here.place) (asked_ends q ss (z -ℤ pos 1) here))

fitted_ends : (d : Declared) (v : Value) (here : Here) → Ends (fitted d v here)
unfolding fitted
fitted_ends d v here =
    if_ends d.kind.is_allocatable (bind_ends (converted_ends d.kind.of v here.place) (λ v. gives_end _))
    (if_ends (conforms (spans_declared d.dimensions.items) v) (bind_ends (converted_ends d.kind.of v here.place) (λ v. gives_end _)) (fails_end _ here.place))

fitted_contents_ends : (d : Declared) (v : Value) (here : Here) → Ends (fitted_contents d v here)
fitted_contents_ends d (Allocated (Array ss vs)) here = fitted_ends d (Array (shown ss) vs) here
fitted_contents_ends d (Allocated (Number z)) here = fitted_ends d (Number z) here
fitted_contents_ends d (Allocated (Truth b)) here = fitted_ends d (Truth b) here
fitted_contents_ends d (Allocated (Composite vs)) here = fitted_ends d (Composite vs) here
fitted_contents_ends d (Allocated Unallocated) here = fitted_ends d Unallocated here
fitted_contents_ends d (Allocated (Allocated v)) here = fitted_ends d (Allocated v) here
fitted_contents_ends d (Number z) here = gives_end _
fitted_contents_ends d (Truth b) here = gives_end _
fitted_contents_ends d (Composite vs) here = gives_end _
fitted_contents_ends d (Array ss vs) here = gives_end _
fitted_contents_ends d Unallocated here = gives_end _

fitted_argument_ends : (d : Declared) (i : Value) (x : Option Passed) (here : Here) → Ends (fitted_argument d i x here)
fitted_argument_ends d i None here = gives_end _
fitted_argument_ends d i (Some (Given k v)) here = fitted_ends d v here
fitted_argument_ends d i (Some (Lent k r)) here = bind_ends (looks_end _) (λ v. fitted_contents_ends d v here)

pub structure_ends : (xs : Parts) (k : ℕ) (ps : List Passed) (here : Here) → Ends (structure xs k ps here)
structure_ends nothing k ps here = gives_end _
structure_ends (and c s rest) k ps here =
    bind_ends (fitted_argument_ends c.declared _ (passed_at k ps) here)
    (λ v. bind_ends (claim_for_ends v here) (λ done. bind_ends (structure_ends rest (suc k) ps here) (λ vs. gives_end _)))

-- ---- references

pub named_ends : (g : Setting) (x : Name) (here : Here) → Ends (named g x here)
named_ends g (name.Static i) here = looks_end _
named_ends g (name.Local i) here = looks_end _
named_ends g (name.Lent i) here = gives_end _

pub component_ends : (g : Setting) (k : ℕ) (maker : Maker) (r : Reference) → Ends (component g k maker r)
component_ends g k maker r = looks_end _

opened_ends : (r : Reference) (v : Value) (here : Here) → Ends (opened r v here)
opened_ends r (Allocated v) here = gives_end _
opened_ends r Unallocated here = fails_end _ here.place
opened_ends r (Number z) here = fails_end _ here.place
opened_ends r (Truth b) here = fails_end _ here.place
opened_ends r (Composite vs) here = fails_end _ here.place
opened_ends r (Array ss vs) here = fails_end _ here.place

contents_by_ends : (reach : Reach) (r : Reference) (here : Here) → Ends (contents_by reach r here)
contents_by_ends One r here = bind_ends (looks_end _) (λ v. opened_ends r v here)
contents_by_ends (Many ss ps) r here = fails_end _ here.place

pub contents_end : (r : Reference) (here : Here) → Ends (contents r here)
contents_end r here = contents_by_ends r.reach r here

places_end : (ss : List Span) (cs : List Chosen) (here : Here) → Ends (places ss cs here)
places_end ss cs here = if_ends (some_zero_step cs) (fails_end _ here.place) (if_ends (all_inside ss cs) (gives_end _) (fails_end _ here.place))

picks_end : (r : Reference) (reach : Reach) (cs : List Chosen) (here : Here) → Ends (picks r reach cs here)
picks_end r One cs here = gives_end _
picks_end r (Many ss ps) cs here = bind_ends (places_end ss cs here) (λ ks. gives_end _)

pub selects_end : (b : Bool) (cs : List Chosen) (r : Reference) (here : Here) → Ends (selects b cs r here)
selects_end b cs r here = bind_ends (if_ends b (contents_end r here) (gives_end r)) (λ r. picks_end r r.reach cs here)

pub in_each_ends : (ss : List Span) (r : Reference) (cs : List Chosen) (here : Here) → Ends (picks_in_each ss r cs here)
in_each_ends ss r cs here = bind_ends (places_end ss cs here) (λ ks. gives_end _)

pub reach_ends : {A : Type 0} (reach : Reach) {x y : Ran A} → Ends x → Ends y → Ends (by_reach reach x y)
reach_ends One g h = g
reach_ends (Many ss ps) g h = h

pub opens_end : (r : Reference) (here : Here) → Ends (opens r here)
opens_end r here = if_ends (is_pinned r.path here.lent) (fails_end _ here.place) (contents_end r here)

-- ---- statements

pub tested_ends : (b : Bool) (error : RunError) (here : Here) → Ends (tested b error here)
tested_ends b error here = if_ends b (gives_end tt) (fails_end error here.place)

pub checked_ends : (x : Option RunError) (here : Here) → Ends (checked x here)
checked_ends None here = gives_end tt
checked_ends (Some error) here = fails_end error here.place

pub unless_ends : (z : ℤ) (here : Here) → Ends (unless_zero z here)
unless_ends z here = if_ends (is_zero z) (fails_end _ here.place) (gives_end tt)

request_ends : Ends request
request_ends = bind_ends asks_end (λ b. bind_ends (does_end _) (λ done. gives_end _))

pub allocate_ends : (rank : ℕ) (v : Value) (h : Reference) (ss : List Span) (here : Here) → Ends (allocate rank v h ss here)
allocate_ends rank v h ss here = bind_ends (looks_end _) (λ already. if_ends already (gives_end _)
    (if_ends (too_many ss || nat_lt 16777216 (count ss)) (gives_end _)
    (bind_ends request_ends (λ refused. if_ends refused (gives_end _) (bind_ends (does_end _) (λ done. gives_end _))))))

pub take_over_ends : (g : Setting) (from to : Reference) (v : Value) (here : Here) → Ends (take_over g 0 no_calls from to v here)
take_over_ends g from to (Allocated v) here = if_ends (is_pinned from.path here.lent) (fails_end _ here.place) (bind_ends (does_end _) (λ done. does_end _))
take_over_ends g from to Unallocated here = gives_end tt
take_over_ends g from to (Number z) here = gives_end tt
take_over_ends g from to (Truth b) here = gives_end tt
take_over_ends g from to (Composite vs) here = gives_end tt
take_over_ends g from to (Array ss vs) here = gives_end tt

pub begun_ends : (ps : List Passed) (initial : List Value) (here : Here) → Ends (begun ps initial here)
begun_ends ps initial here = bind_ends (claim_ends here) (λ done.
    bind_ends (looks_end _) (λ level. bind_ends (enter_ends _) (λ done. bind_ends (enter_ends _) (λ done. gives_end level))))
