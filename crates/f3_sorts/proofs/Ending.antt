-- What instructions perform comes to an end, whatever the bound on turns of loops.
use Rattle.std.proofs.Common.{ℕ, true, false, if◌then◌else◌, zero, suc, ℤ, pos, negsuc, Bool, List, [], ◌∷◌, Option, None, Some}
use Rattle.std.specs.Prelude.{⊤, int_le, ◌-ℤ◌, ◌||◌, nat_lt}
use Rattle.f3_places.specs.declared.source.Place.{Place}
use Rattle.f3_program.specs.declared.declarations.Base.{Base}
use Rattle.f3_program.specs.declared.declarations.Declared.{Declared}
use Rattle.f3_program.specs.declared.expression.BinaryOperator.{BinaryOperator}
use Rattle.f3_program.specs.declared.expression.BinaryOperator.TheVariants as o
use Rattle.f3_program.specs.declared.expression.UnaryOperator as c
use Rattle.f3_program.specs.declared.expression.UnaryOperator.TheVariants.{Negate, Absolute, Not}
use Rattle.f3_program.specs.declared.expression.Name.{Name}
use Rattle.f3_program.specs.declared.expression.Name.TheVariants as n
use Rattle.f3_program.specs.declared.expression.Query.{Query}
use Rattle.f3_meaning_whole.specs.Value.{Span, Value, Array, Unallocated, Allocated, number_of, listed, conforms, shown, count}
use Rattle.f3_meaning_whole.specs.Reference.{Reach, One, Many, Reference, is_pinned}
use Rattle.f3_meaning_whole.specs.declared.run_error.RunError.{RunError}
use Rattle.f3_meaning_whole.specs.Arithmetic.{converted, value_fits, divided, is_zero, power, apply, change_of}
use Rattle.f3_meaning_whole.specs.Shape.{Parts, nothing, and, spans_declared}
use Rattle.f3_meaning_whole.specs.Act.{Setting, Here, Passed, Given, Lent, Calls, claim, claim_for, needs_storage, named, opened, contents_by, contents, read, Chosen, some_zero_step, all_inside, places, picks, picks_in_each, fitted, fitted_contents, fitted_argument, structure, passed_at}
use Rattle.f3_meaning_whole.specs.Eval.{by_reach, result, built, asked}
use Rattle.f3_meaning_whole.specs.Exec.{text_of, print_value, request, too_many, unless_zero, take_over}
use Rattle.f3_code.specs.Exec.{allocate}
use Rattle.f3_code.specs.Machine.{begun, opens, checked, tested, selects}
use Rattle.f3_meaning_whole.specs.Store.{Store}
use Rattle.f3_meaning_whole.specs.Ran.{Event, World, End, Gives, Fails, Stops, Beyond, Ran, go_on, ◌>>=◌, gives, fails, looks, does, asks, prints_bytes, each}

-- it does not go on beyond a bound
abbrev pub IsEnd : {A : Type 0} → End A → Type 0
IsEnd Beyond = ⊥
IsEnd end = Unit {0}

pub record Ends {A : Type 0} (r : Ran A) : Type 0 where
  pub by : (w : World) → IsEnd (r.from w).end

pub gives_ends : {A : Type 0} (x : A) → Ends (gives x)
unfolding gives
gives_ends x = record { by = λ w. tt }

fails_ends : {A : Type 0} (error : RunError) (place : Place) → Ends (fails {A = A} error place)
unfolding fails
fails_ends error place = record { by = λ w. tt }

pub looks_ends : {A : Type 0} (f : Store → A) → Ends (looks f)
unfolding looks
looks_ends f = record { by = λ w. tt }

pub does_ends : (events : Store → List Event) → Ends (does events)
unfolding does
does_ends events = record { by = λ w. tt }

asks_ends : Ends asks
unfolding asks
asks_ends = record { by = λ w. tt }

pub prints_ends : (bytes : List ℕ) → Ends (prints_bytes bytes)
unfolding prints_bytes
prints_ends bytes = does_ends _

followed : {A B : Type 0} (f : A → Ran B) → ((x : A) → Ends (f x)) → (out : List Event) (end : End A) → IsEnd end → IsEnd (go_on out end f).end
followed f k out (Gives x u) h = (k x).by u
followed f k out (Fails error place) h = tt
followed f k out (Stops code) h = tt
followed f k out Beyond h = absurd h

pub bind_ends : {A B : Type 0} {m : Ran A} {f : A → Ran B} → Ends m → ((x : A) → Ends (f x)) → Ends (m >>= f)
unfolding ◌>>=◌
bind_ends {m = m} {f = f} h k = record { by = λ w. followed f k (m.from w).out (m.from w).end (h.by w) }

if_ends : {A : Type 0} (b : Bool) {x y : Ran A} → Ends x → Ends y → Ends (if b then x else y)
if_ends true h k = h
if_ends false h k = k

pub reach_ends : {A : Type 0} (reach : Reach) {x y : Ran A} → Ends x → Ends y → Ends (by_reach reach x y)
reach_ends One h k = h
reach_ends (Many ss ps) h k = k

each_ends : {A : Type 0} (xs : List A) {act : A → Ran ⊤} → ((x : A) → Ends (act x)) → Ends (each xs act)
each_ends [] h = gives_ends tt
each_ends (x ∷ xs) h = bind_ends (h x) (λ done. each_ends xs h)

pub converted_ends : (t : Base) (v : Value) (place : Place) → Ends (converted t v place)
unfolding converted
converted_ends t v place = if_ends (value_fits t v) (gives_ends v) (fails_ends _ place)

divided_ends : (y : ℤ) (t : Base) (z : ℤ) (place : Place) → Ends (divided y t z place)
unfolding divided
divided_ends y t z place = if_ends (is_zero y) (fails_ends _ place) (converted_ends t _ place)

power_ends : (x y : ℤ) (t : Base) (place : Place) → Ends (power x y t place)
power_ends x (pos n) t place = converted_ends t _ place
power_ends (pos zero) (negsuc n) t place = fails_ends _ place
power_ends (pos (suc zero)) (negsuc n) t place = gives_ends _
power_ends (pos (suc (suc x))) (negsuc n) t place = gives_ends _
power_ends (negsuc zero) (negsuc n) t place = gives_ends _
power_ends (negsuc (suc x)) (negsuc n) t place = gives_ends _

pub apply_ends : (op : BinaryOperator) (t : Base) (x y : Value) (place : Place) → Ends (apply op t x y place)
apply_ends o.Add t x y place = converted_ends t _ place
apply_ends o.Subtract t x y place = converted_ends t _ place
apply_ends o.Multiply t x y place = converted_ends t _ place
apply_ends o.Divide t x y place = divided_ends _ t _ place
apply_ends o.Power t x y place = power_ends (number_of x) (number_of y) t place
apply_ends o.Mod t x y place = divided_ends _ t _ place
apply_ends o.Modulo t x y place = divided_ends _ t _ place
apply_ends op t x y place = gives_ends _

pub change_ends : (op : c.UnaryOperator) (t : Base) (x : Value) (place : Place) → Ends (change_of op t x place)
change_ends Negate t x place = converted_ends t _ place
change_ends Absolute t x place = converted_ends t _ place
change_ends Not t x place = gives_ends _

pub claim_ends : (here : Here) → Ends (claim here)
claim_ends here = bind_ends asks_ends (λ b. if_ends b (fails_ends _ here.place) (gives_ends tt))

pub claim_for_ends : (v : Value) (here : Here) → Ends (claim_for v here)
claim_for_ends v here = if_ends (needs_storage v) (claim_ends here) (gives_ends tt)

pub built_ends : (v : Value) (here : Here) → Ends (built v here)
built_ends v here = bind_ends (claim_for_ends v here) (λ done. gives_ends v)

pub read_ends : (r : Reference) (here : Here) → Ends (read r here)
read_ends r here = bind_ends (looks_ends _) (λ v. bind_ends (claim_for_ends v here) (λ done. gives_ends v))

pub print_ends : (v : Value) → Ends (print_value v)
print_ends (Array ss vs) = each_ends (listed vs) (λ v. prints_ends (text_of v))
print_ends v = prints_ends _

places_ends : (ss : List Span) (cs : List Chosen) (here : Here) → Ends (places ss cs here)
places_ends ss cs here = if_ends (some_zero_step cs) (fails_ends _ here.place) (if_ends (all_inside ss cs) (gives_ends _) (fails_ends _ here.place))

picks_ends : (r : Reference) (reach : Reach) (cs : List Chosen) (here : Here) → Ends (picks r reach cs here)
picks_ends r One cs here = gives_ends r
picks_ends r (Many ss ps) cs here = bind_ends (places_ends ss cs here) (λ ks. gives_ends _)

pub picks_in_each_ends : (ss : List Span) (r : Reference) (cs : List Chosen) (here : Here) → Ends (picks_in_each ss r cs here)
picks_in_each_ends ss r cs here = bind_ends (places_ends ss cs here) (λ ks. gives_ends _)

pub named_ends : (g : Setting) (x : Name) (here : Here) → Ends (named g x here)
named_ends g (n.Static i) here = looks_ends _
named_ends g (n.Local i) here = looks_ends _
named_ends g (n.Lent i) here = gives_ends _

opened_ends : (r : Reference) (v : Value) (here : Here) → Ends (opened r v here)
opened_ends r (Allocated v) here = gives_ends _
opened_ends r v here = fails_ends _ here.place

contents_by_ends : (reach : Reach) (r : Reference) (here : Here) → Ends (contents_by reach r here)
contents_by_ends One r here = bind_ends (looks_ends _) (λ v. opened_ends r v here)
contents_by_ends (Many ss ps) r here = fails_ends _ here.place

pub contents_ends : (r : Reference) (here : Here) → Ends (contents r here)
contents_ends r here = contents_by_ends r.reach r here

pub opens_ends : (r : Reference) (here : Here) → Ends (opens r here)
opens_ends r here = if_ends (is_pinned r.path here.lent) (fails_ends _ here.place) (contents_ends r here)

pub selects_ends : (is_opened : Bool) (cs : List Chosen) (r : Reference) (here : Here) → Ends (selects is_opened cs r here)
selects_ends is_opened cs r here = bind_ends (if_ends is_opened (contents_ends r here) (gives_ends r)) (λ q. picks_ends q q.reach cs here)

pub result_ends : (v : Value) (here : Here) → Ends (result v here)
result_ends Unallocated here = fails_ends _ here.place
result_ends v here = gives_ends _

pub asked_ends : (q : Query) (ss : List Span) (z : ℤ) (here : Here) → Ends (asked q ss z here)
asked_ends q [] z here = fails_ends _ here.place
asked_ends q (s ∷ ss) z here = if_ends (int_le z (pos 0)) (fails_ends _ here.place) (if_ends (int_le z (pos 1)) (converted_ends _ _ here.place) (asked_ends q ss (z -ℤ pos 1) here))

fitted_ends : (d : Declared) (v : Value) (here : Here) → Ends (fitted d v here)
unfolding fitted
fitted_ends d v here =
    if_ends d.kind.is_allocatable (bind_ends (converted_ends d.kind.of v here.place) (λ v. gives_ends _))
    (if_ends (conforms (spans_declared d.dimensions.items) v) (bind_ends (converted_ends d.kind.of v here.place) (λ v. gives_ends _)) (fails_ends _ here.place))

fitted_contents_ends : (d : Declared) (v : Value) (here : Here) → Ends (fitted_contents d v here)
fitted_contents_ends d (Allocated (Array ss vs)) here = fitted_ends d (Array (shown ss) vs) here
fitted_contents_ends d (Allocated v) here = fitted_ends d v here
fitted_contents_ends d v here = gives_ends _

fitted_argument_ends : (d : Declared) (i : Value) (o : Option Passed) (here : Here) → Ends (fitted_argument d i o here)
fitted_argument_ends d i None here = gives_ends i
fitted_argument_ends d i (Some (Given k v)) here = fitted_ends d v here
fitted_argument_ends d i (Some (Lent k r)) here = bind_ends (looks_ends _) (λ v. fitted_contents_ends d v here)

pub structure_ends : (xs : Parts) (k : ℕ) (ps : List Passed) (here : Here) → Ends (structure xs k ps here)
structure_ends nothing k ps here = gives_ends _
structure_ends (and c s rest) k ps here =
    bind_ends (fitted_argument_ends c.declared _ (passed_at k ps) here) (λ v. bind_ends (claim_for_ends v here) (λ done. bind_ends (structure_ends rest (suc k) ps here) (λ vs. gives_ends _)))

request_ends : Ends request
request_ends = bind_ends asks_ends (λ b. bind_ends (does_ends _) (λ done. gives_ends b))

pub allocate_ends : (rank : ℕ) (element : Value) (h : Reference) (ss : List Span) (here : Here) → Ends (allocate rank element h ss here)
allocate_ends rank element h ss here = bind_ends (looks_ends _) (λ already. if_ends already (gives_ends _)
    (if_ends (too_many ss || nat_lt 16777216 (count ss)) (gives_ends _)
    (bind_ends request_ends (λ refused. if_ends refused (gives_ends _) (bind_ends (does_ends _) (λ done. gives_ends _))))))

pub unless_ends : (z : ℤ) (here : Here) → Ends (unless_zero z here)
unless_ends z here = if_ends (is_zero z) (fails_ends _ here.place) (gives_ends tt)

pub take_over_ends : (g : Setting) (k : ℕ) (calls : Calls) (from to : Reference) (v : Value) (here : Here) → Ends (take_over g k calls from to v here)
take_over_ends g k calls from to (Allocated v) here = if_ends (is_pinned from.path here.lent) (fails_ends _ here.place) (bind_ends (does_ends _) (λ done. does_ends _))
take_over_ends g k calls from to v here = gives_ends tt

pub begun_ends : (ps : List Passed) (initial : List Value) (here : Here) → Ends (begun ps initial here)
begun_ends ps initial here = bind_ends (claim_ends here) (λ done. bind_ends (looks_ends _) (λ level. bind_ends (does_ends _) (λ done. bind_ends (does_ends _) (λ done. gives_ends level))))

pub checked_ends : (x : Option RunError) (here : Here) → Ends (checked x here)
checked_ends None here = gives_ends tt
checked_ends (Some error) here = fails_ends error here.place

pub tested_ends : (b : Bool) (error : RunError) (here : Here) → Ends (tested b error here)
tested_ends b error here = if_ends b (gives_ends tt) (fails_ends error here.place)
