-- Parts of runs that change nothing.
use Rattle.std.proofs.Common.{ℕ, zero, suc, ℤ, pos, negsuc, List, [], ◌∷◌, Option, None, Some, refl}
use Rattle.std.specs.Prelude.{⊤, int_le, ◌-ℤ◌}
use Rattle.f3_places.specs.declared.source.Place.{Place}
use Rattle.f3_program.specs.declared.declarations.Base.{Base}
use Rattle.f3_program.specs.declared.declarations.Declared.{Declared}
use Rattle.f3_program.specs.declared.expression.BinaryOperator.{BinaryOperator}
use Rattle.f3_program.specs.declared.expression.BinaryOperator.TheVariants as o
use Rattle.f3_program.specs.declared.expression.UnaryOperator as c
use Rattle.f3_program.specs.declared.expression.UnaryOperator.TheVariants.{Negate, Absolute, Not}
use Rattle.f3_program.specs.declared.expression.Query.{Query}
use Rattle.f3_program.specs.declared.program.Program.{Program}
use Rattle.f3_meaning_whole.specs.Value.{Span, Value, Number, Truth, Composite, Array, Unallocated, Allocated, number_of, listed, conforms, shown}
use Rattle.f3_meaning_whole.specs.Reference.{Reference}
use Rattle.f3_meaning_whole.specs.Ran.{Ran, prints_bytes}
use Rattle.f3_meaning_whole.specs.Arithmetic.{converted, value_fits, divided, is_zero, power, apply, change_of}
use Rattle.f3_meaning_whole.specs.Shape.{Parts, nothing, and, spans_declared}
use Rattle.f3_meaning_whole.specs.Act.{Here, Passed, Given, Lent, claim, claim_for, needs_storage, read, begins, enter, leave, Chosen, some_zero_step, all_inside, places, fitted, fitted_contents, fitted_argument, structure, passed_at}
use Rattle.f3_meaning_whole.specs.Eval.{result, built, asked}
use Rattle.f3_meaning_whole.specs.Exec.{text_of, print_value, request, unless_zero}
use Rattle.f3_meaning_whole.specs.Permitted.{Each}
use Rattle.f3_meaning_laws.proofs.Keeping.{Keeps, bind_keeps, gives_safe, fails_keeps, looks_safe, does_safe, if_keeps, each_keeps, asks_safe, changes-printed, printed-stands}

module _ (p : Program) where
  -- nothing is changed
  abbrev pub Safe : {A : Type 0} → Ran A → Type 0
  Safe {A} r = Keeps p {A = A} (λ x. ⊤) r

  pub converted_safe : (t : Base) (v : Value) (place : Place) → Safe (converted t v place)
  unfolding converted
  converted_safe t v place = if_keeps p (value_fits t v) (gives_safe p v) (fails_keeps p _ place)

  divided_safe : (y : ℤ) (t : Base) (z : ℤ) (place : Place) → Safe (divided y t z place)
  unfolding divided
  divided_safe y t z place = if_keeps p (is_zero y) (fails_keeps p _ place) (converted_safe t _ place)

  power_safe : (x y : ℤ) (t : Base) (place : Place) → Safe (power x y t place)
  power_safe x (pos n) t place = converted_safe t _ place
  power_safe (pos zero) (negsuc n) t place = fails_keeps p _ place
  power_safe (pos (suc zero)) (negsuc n) t place = gives_safe p _
  power_safe (pos (suc (suc x))) (negsuc n) t place = gives_safe p _
  power_safe (negsuc zero) (negsuc n) t place = gives_safe p _
  power_safe (negsuc (suc x)) (negsuc n) t place = gives_safe p _

  pub apply_safe : (op : BinaryOperator) (t : Base) (x y : Value) (place : Place) → Safe (apply op t x y place)
  apply_safe o.Add t x y place = converted_safe t _ place
  apply_safe o.Subtract t x y place = converted_safe t _ place
  apply_safe o.Multiply t x y place = converted_safe t _ place
  apply_safe o.Divide t x y place = divided_safe _ t _ place
  apply_safe o.Power t x y place = power_safe (number_of x) (number_of y) t place
  apply_safe o.Mod t x y place = divided_safe _ t _ place
  apply_safe o.Modulo t x y place = divided_safe _ t _ place
  apply_safe o.Max t x y place = gives_safe p _
  apply_safe o.Min t x y place = gives_safe p _
  apply_safe o.Equal t x y place = gives_safe p _
  apply_safe o.NotEqual t x y place = gives_safe p _
  apply_safe o.Less t x y place = gives_safe p _
  apply_safe o.LessOrEqual t x y place = gives_safe p _
  apply_safe o.Greater t x y place = gives_safe p _
  apply_safe o.GreaterOrEqual t x y place = gives_safe p _
  apply_safe o.And t x y place = gives_safe p _
  apply_safe o.Or t x y place = gives_safe p _
  apply_safe o.Equivalent t x y place = gives_safe p _
  apply_safe o.NotEquivalent t x y place = gives_safe p _

  pub change_safe : (op : c.UnaryOperator) (t : Base) (x : Value) (place : Place) → Safe (change_of op t x place)
  change_safe Negate t x place = converted_safe t _ place
  change_safe Absolute t x place = converted_safe t _ place
  change_safe Not t x place = gives_safe p _

  pub claim_safe : (here : Here) → Safe (claim here)
  claim_safe here = bind_keeps p (asks_safe p) (λ b u. if_keeps p b (fails_keeps p _ here.place) (gives_safe p tt))

  pub claim_for_safe : (v : Value) (here : Here) → Safe (claim_for v here)
  claim_for_safe v here = if_keeps p (needs_storage v) (claim_safe here) (gives_safe p tt)

  pub built_safe : (v : Value) (here : Here) → Safe (built v here)
  built_safe v here = bind_keeps p (claim_for_safe v here) (λ done u. gives_safe p v)

  pub read_safe : (r : Reference) (here : Here) → Safe (read r here)
  read_safe r here = bind_keeps p (looks_safe p _) (λ v u. bind_keeps p (claim_for_safe v here) (λ done u. gives_safe p v))

  pub begins_safe : (here : Here) → Safe (begins here)
  begins_safe here = does_safe p _ (λ s. refl) (λ s. (refl, tt))

  pub enter_safe : (vs : List Value) → Safe (enter vs)
  enter_safe vs = does_safe p _ (λ s. refl) (λ s. (tt, tt))

  pub leave_safe : (level : ℕ) → Safe (leave level)
  leave_safe level = does_safe p _ (λ s. refl) (λ s. (tt, tt))

  pub printed_safe : (bytes : List ℕ) → Safe (prints_bytes bytes)
  unfolding prints_bytes
  printed_safe bytes = does_safe p _ (λ s. changes-printed bytes) (λ s. printed-stands bytes s)

  all_of : {A : Type 0} (xs : List A) → Each (λ x. ⊤) xs
  all_of [] = tt
  all_of (x ∷ xs) = (tt, all_of xs)

  pub print_safe : (v : Value) → Safe (print_value v)
  print_safe (Array ss vs) = each_keeps p (listed vs) _ (λ v. ⊤) (all_of (listed vs)) (λ v u. printed_safe (text_of v))
  print_safe (Number z) = printed_safe _
  print_safe (Truth b) = printed_safe _
  print_safe (Composite vs) = printed_safe _
  print_safe Unallocated = printed_safe _
  print_safe (Allocated v) = printed_safe _

  pub places_keep : (ss : List Span) (cs : List Chosen) (here : Here) → Safe (places ss cs here)
  places_keep ss cs here = if_keeps p (some_zero_step cs) (fails_keeps p _ here.place) (if_keeps p (all_inside ss cs) (gives_safe p _) (fails_keeps p _ here.place))

  pub result_safe : (v : Value) (here : Here) → Safe (result v here)
  result_safe (Allocated v) here = gives_safe p _
  result_safe Unallocated here = fails_keeps p _ here.place
  result_safe (Number z) here = gives_safe p _
  result_safe (Truth b) here = gives_safe p _
  result_safe (Composite vs) here = gives_safe p _
  result_safe (Array ss vs) here = gives_safe p _

  pub asked_safe : (q : Query) (ss : List Span) (z : ℤ) (here : Here) → Safe (asked q ss z here)
  asked_safe q [] z here = fails_keeps p _ here.place
  asked_safe q (s ∷ ss) z here = if_keeps p (int_le z (pos 0)) (fails_keeps p _ here.place) (if_keeps p (int_le z (pos 1)) (converted_safe _ _ here.place) (asked_safe q ss (z -ℤ pos 1) here))

  fitted_safe : (d : Declared) (v : Value) (here : Here) → Safe (fitted d v here)
  unfolding fitted
  fitted_safe d v here =
      if_keeps p d.kind.is_allocatable (bind_keeps p (converted_safe d.kind.of v here.place) (λ v u. gives_safe p _))
      (if_keeps p (conforms (spans_declared d.dimensions.items) v) (bind_keeps p (converted_safe d.kind.of v here.place) (λ v u. gives_safe p _)) (fails_keeps p _ here.place))

  fitted_contents_safe : (d : Declared) (v : Value) (here : Here) → Safe (fitted_contents d v here)
  fitted_contents_safe d (Allocated (Array ss vs)) here = fitted_safe d (Array (shown ss) vs) here
  fitted_contents_safe d (Allocated (Number z)) here = fitted_safe d (Number z) here
  fitted_contents_safe d (Allocated (Truth b)) here = fitted_safe d (Truth b) here
  fitted_contents_safe d (Allocated (Composite vs)) here = fitted_safe d (Composite vs) here
  fitted_contents_safe d (Allocated Unallocated) here = fitted_safe d Unallocated here
  fitted_contents_safe d (Allocated (Allocated v)) here = fitted_safe d (Allocated v) here
  fitted_contents_safe d (Number z) here = gives_safe p _
  fitted_contents_safe d (Truth b) here = gives_safe p _
  fitted_contents_safe d (Composite vs) here = gives_safe p _
  fitted_contents_safe d (Array ss vs) here = gives_safe p _
  fitted_contents_safe d Unallocated here = gives_safe p _

  fitted_argument_safe : (d : Declared) (i : Value) (o : Option Passed) (here : Here) → Safe (fitted_argument d i o here)
  fitted_argument_safe d i None here = gives_safe p _
  fitted_argument_safe d i (Some (Given k v)) here = fitted_safe d v here
  fitted_argument_safe d i (Some (Lent k r)) here = bind_keeps p (looks_safe p _) (λ v u. fitted_contents_safe d v here)

  pub structure_safe : (xs : Parts) (k : ℕ) (ps : List Passed) (here : Here) → Safe (structure xs k ps here)
  structure_safe nothing k ps here = gives_safe p _
  structure_safe (and c s rest) k ps here =
      bind_keeps p (fitted_argument_safe c.declared _ (passed_at k ps) here) (λ v u. bind_keeps p (claim_for_safe v here) (λ done u. bind_keeps p (structure_safe rest (suc k) ps here) (λ vs u. gives_safe p _)))

  pub request_safe : Safe request
  request_safe = bind_keeps p (asks_safe p) (λ b u. bind_keeps p (does_safe p _ (λ s. refl) (λ s. (tt, tt))) (λ done u. gives_safe p _))

  pub unless_safe : (z : ℤ) (here : Here) → Safe (unless_zero z here)
  unless_safe z here = if_keeps p (is_zero z) (fails_keeps p _ here.place) (gives_safe p tt)
