-- Parts of runs that leave the store as it was.
use Rattle.std.proofs.Common.{◌≡◌, ℕ, zero, suc, ℤ, pos, negsuc, Bool, List, [], ◌∷◌, map, Option, None, Some, refl, if◌then◌else◌, ◌∙◌}
use Rattle.std.specs.Prelude.{int_le, ◌-ℤ◌}
use Rattle.f3_places.specs.declared.source.Place.{Place}
use Rattle.f3_program.specs.declared.declarations.Base.{Base}
use Rattle.f3_program.specs.declared.declarations.Declared.{Declared}
use Rattle.f3_program.specs.declared.expression.BinaryOperator.{BinaryOperator}
use Rattle.f3_program.specs.declared.expression.BinaryOperator.TheVariants as o
use Rattle.f3_program.specs.declared.expression.UnaryOperator as c
use Rattle.f3_program.specs.declared.expression.UnaryOperator.TheVariants.{Negate, Absolute, Not}
use Rattle.f3_program.specs.declared.expression.Query.{Query}
use Rattle.f3_meaning_whole.specs.Value.{Span, Value, Number, Truth, Composite, Array, Unallocated, Allocated, number_of, listed, conforms, shown}
use Rattle.f3_meaning_whole.specs.Store.{Store, get}
use Rattle.f3_meaning_whole.specs.Reference.{Reference, held_at}
use Rattle.f3_meaning_whole.specs.declared.run_error.RunError.{RunError}
use Rattle.f3_meaning_whole.specs.declared.run_error.RunError.TheVariants.{StepIsZero}
use Rattle.f3_meaning_whole.specs.Ran.{Printed, Asked, Ran, ◌>>=◌, gives, fails, looks, asks, does, prints_bytes, each, replayed}
use Rattle.f3_meaning_whole.specs.Arithmetic.{converted, value_fits, divided, is_zero, power, apply, change_of}
use Rattle.f3_meaning_whole.specs.Shape.{Parts, nothing, and, spans_declared}
use Rattle.f3_meaning_whole.specs.Act.{Here, Passed, Given, Lent, claim, claim_for, read, begins, fitted, fitted_contents, fitted_argument, structure, passed_at}
use Rattle.f3_meaning_whole.specs.Eval.{result, built, asked}
use Rattle.f3_meaning_whole.specs.Exec.{text_of, print_value, request, unless_zero}
use Rattle.f3_code.specs.Machine.{checked, tested}
use Rattle.f3_cell_kinds.proofs.Calm.{Calm, gives_calm, fails_calm, looks_calm, bind_calm, if_calm, claim_for_calm}

-- whatever is given
abbrev pub Still : {A : Type 0} → Store → Ran A → Type 0
Still {A} store r = Calm {A = A} (λ x. Unit {0}) store r

module _ (store : Store) where
  pub gives_still : {A : Type 0} (x : A) → Still store (gives x)
  gives_still x = gives_calm x tt

  pub fails_still : {A : Type 0} (error : RunError) (place : Place) → Calm {A = A} (λ x. Unit {0}) store (fails error place)
  fails_still error place = fails_calm error place

  pub looks_still : {A : Type 0} (f : Store → A) → Still store (looks f)
  looks_still f = looks_calm f tt

  asks_still : Still store asks
  unfolding asks
  asks_still = record { by = λ w e. (tt, e) }

  pub then_still : {A B : Type 0} {m : Ran A} {f : A → Ran B} → Still store m → ((x : A) → Still store (f x)) → Still store (m >>= f)
  then_still h k = bind_calm h (λ x t. k x)

  if_still : {A : Type 0} (b : Bool) {x y : Ran A} → Still store x → Still store y → Still store (if b then x else y)
  if_still b h k = if_calm b (λ e. h) (λ e. k)

  pub claim_still : (here : Here) → Still store (claim here)
  claim_still here = then_still asks_still (λ b. if_still b (fails_still _ here.place) (gives_still tt))

  pub converted_still : (t : Base) (v : Value) (place : Place) → Still store (converted t v place)
  unfolding converted
  converted_still t v place = if_still (value_fits t v) (gives_still v) (fails_still _ place)

  divided_still : (y : ℤ) (t : Base) (z : ℤ) (place : Place) → Still store (divided y t z place)
  unfolding divided
  divided_still y t z place = if_still (is_zero y) (fails_still _ place) (converted_still t _ place)

  power_still : (x y : ℤ) (t : Base) (place : Place) → Still store (power x y t place)
  power_still x (pos n) t place = converted_still t _ place
  power_still (pos zero) (negsuc n) t place = fails_still _ place
  power_still (pos (suc zero)) (negsuc n) t place = gives_still _
  power_still (pos (suc (suc x))) (negsuc n) t place = gives_still _
  power_still (negsuc zero) (negsuc n) t place = gives_still _
  power_still (negsuc (suc x)) (negsuc n) t place = gives_still _

  pub apply_still : (op : BinaryOperator) (t : Base) (x y : Value) (place : Place) → Still store (apply op t x y place)
  apply_still o.Add t x y place = converted_still t _ place
  apply_still o.Subtract t x y place = converted_still t _ place
  apply_still o.Multiply t x y place = converted_still t _ place
  apply_still o.Divide t x y place = divided_still _ t _ place
  apply_still o.Power t x y place = power_still (number_of x) (number_of y) t place
  apply_still o.Mod t x y place = divided_still _ t _ place
  apply_still o.Modulo t x y place = divided_still _ t _ place
  apply_still o.Max t x y place = gives_still _
  apply_still o.Min t x y place = gives_still _
  apply_still o.Equal t x y place = gives_still _
  apply_still o.NotEqual t x y place = gives_still _
  apply_still o.Less t x y place = gives_still _
  apply_still o.LessOrEqual t x y place = gives_still _
  apply_still o.Greater t x y place = gives_still _
  apply_still o.GreaterOrEqual t x y place = gives_still _
  apply_still o.And t x y place = gives_still _
  apply_still o.Or t x y place = gives_still _
  apply_still o.Equivalent t x y place = gives_still _
  apply_still o.NotEquivalent t x y place = gives_still _

  pub change_still : (op : c.UnaryOperator) (t : Base) (x : Value) (place : Place) → Still store (change_of op t x place)
  change_still Negate t x place = converted_still t _ place
  change_still Absolute t x place = converted_still t _ place
  change_still Not t x place = gives_still _

  pub claim_for_still : (v : Value) (here : Here) → Still store (claim_for v here)
  claim_for_still v here = claim_for_calm v here

  pub built_still : (v : Value) (here : Here) → Still store (built v here)
  built_still v here = then_still (claim_for_still v here) (λ done. gives_still v)

  pub read_still : (r : Reference) (here : Here) → Still store (read r here)
  read_still r here = then_still (looks_still (λ store. held_at store r.path r.reach)) (λ v. then_still (claim_for_still v here) (λ done. gives_still v))

  pub result_still : (v : Value) (here : Here) → Still store (result v here)
  result_still (Allocated v) here = gives_still _
  result_still Unallocated here = fails_still _ here.place
  result_still (Number z) here = gives_still _
  result_still (Truth b) here = gives_still _
  result_still (Composite vs) here = gives_still _
  result_still (Array ss vs) here = gives_still _

  pub asked_still : (q : Query) (ss : List Span) (z : ℤ) (here : Here) → Still store (asked q ss z here)
  asked_still q [] z here = fails_still _ here.place
  asked_still q (s ∷ ss) z here = if_still (int_le z (pos 0)) (fails_still _ here.place)
      (if_still (int_le z (pos 1)) (converted_still _ _ here.place) (asked_still q ss (z -ℤ pos 1) here))

  fitted_still : (d : Declared) (v : Value) (here : Here) → Still store (fitted d v here)
  unfolding fitted
  fitted_still d v here =
      if_still d.kind.is_allocatable (then_still (converted_still d.kind.of v here.place) (λ v. gives_still _))
      (if_still (conforms (spans_declared d.dimensions.items) v) (then_still (converted_still d.kind.of v here.place) (λ v. gives_still _)) (fails_still _ here.place))

  fitted_contents_still : (d : Declared) (v : Value) (here : Here) → Still store (fitted_contents d v here)
  fitted_contents_still d (Allocated (Array ss vs)) here = fitted_still d (Array (shown ss) vs) here
  fitted_contents_still d (Allocated (Number z)) here = fitted_still d (Number z) here
  fitted_contents_still d (Allocated (Truth b)) here = fitted_still d (Truth b) here
  fitted_contents_still d (Allocated (Composite vs)) here = fitted_still d (Composite vs) here
  fitted_contents_still d (Allocated Unallocated) here = fitted_still d Unallocated here
  fitted_contents_still d (Allocated (Allocated v)) here = fitted_still d (Allocated v) here
  fitted_contents_still d (Number z) here = gives_still _
  fitted_contents_still d (Truth b) here = gives_still _
  fitted_contents_still d (Composite vs) here = gives_still _
  fitted_contents_still d (Array ss vs) here = gives_still _
  fitted_contents_still d Unallocated here = gives_still _

  fitted_argument_still : (d : Declared) (i : Value) (q : Option Passed) (here : Here) → Still store (fitted_argument d i q here)
  fitted_argument_still d i None here = gives_still _
  fitted_argument_still d i (Some (Given k v)) here = fitted_still d v here
  fitted_argument_still d i (Some (Lent k r)) here = then_still (looks_still (λ store. get store r.path)) (λ v. fitted_contents_still d v here)

  pub structure_still : (xs : Parts) (k : ℕ) (ps : List Passed) (here : Here) → Still store (structure xs k ps here)
  structure_still nothing k ps here = gives_still _
  structure_still (and c s rest) k ps here = then_still (fitted_argument_still c.declared _ (passed_at k ps) here)
      (λ v. then_still (claim_for_still v here) (λ done. then_still (structure_still rest (suc k) ps here) (λ vs. gives_still _)))

  pub unless_still : (z : ℤ) (here : Here) → Still store (unless_zero z here)
  unless_still z here = if_still (is_zero z) (fails_still StepIsZero here.place) (gives_still tt)

  pub checked_still : (x : Option RunError) (here : Here) → Still store (checked x here)
  checked_still None here = gives_still tt
  checked_still (Some error) here = fails_still error here.place

  pub tested_still : (b : Bool) (error : RunError) (here : Here) → Still store (tested b error here)
  tested_still b error here = if_still b (gives_still tt) (fails_still error here.place)

  refused_still : (b : Bool) → Still store (does (λ store. Asked b ∷ []))
  unfolding does
  refused_still b = record { by = λ w e. (tt, e) }

  pub request_still : Still store request
  request_still = then_still asks_still (λ b. then_still (refused_still b) (λ done. gives_still b))

  pub begins_still : (here : Here) → Still store (begins here)
  unfolding does
  begins_still here = record { by = λ w e. (tt, e) }

-- ---- printing

printed : (bytes : List ℕ) (store : Store) → replayed (map Printed bytes) store ≡ store
printed [] store = refl
printed (b ∷ bytes) store = printed bytes store

pub prints_still : (store : Store) (bytes : List ℕ) → Still store (prints_bytes bytes)
unfolding prints_bytes does
prints_still store bytes = record { by = λ w e. (tt, printed bytes w.store ∙ e) }

each_still : {A : Type 0} (store : Store) (xs : List A) (f : A → Ran (Unit {0})) → ((x : A) → Still store (f x)) → Still store (each xs f)
each_still store [] f h = gives_still store tt
each_still store (x ∷ xs) f h = then_still store (h x) (λ done. each_still store xs f h)

pub print_still : (store : Store) (v : Value) → Still store (print_value v)
print_still store (Array ss vs) = each_still store (listed vs) _ (λ v. prints_still store (text_of v))
print_still store (Number z) = prints_still store _
print_still store (Truth b) = prints_still store _
print_still store (Composite vs) = prints_still store _
print_still store Unallocated = prints_still store _
print_still store (Allocated v) = prints_still store _
