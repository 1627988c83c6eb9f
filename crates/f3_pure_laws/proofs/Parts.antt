-- Parts of runs that change nothing.
use Rattle.std.proofs.Common.{ℕ, zero, suc, ℤ, pos, negsuc, Bool, List, [], ◌∷◌, Option, None, Some}
use Rattle.std.specs.Prelude.{int_le, ◌-ℤ◌}
use Rattle.f3_places.specs.declared.source.Place.{Place}
use Rattle.f3_program.specs.declared.declarations.Base.{Base}
use Rattle.f3_program.specs.declared.declarations.Declared.{Declared}
use Rattle.f3_program.specs.declared.expression.BinaryOperator.{BinaryOperator}
use Rattle.f3_program.specs.declared.expression.BinaryOperator.TheVariants as o
use Rattle.f3_program.specs.declared.expression.UnaryOperator as c
use Rattle.f3_program.specs.declared.expression.UnaryOperator.TheVariants.{Negate, Absolute, Not}
use Rattle.f3_program.specs.declared.expression.Query.{Query}
use Rattle.f3_meaning_whole.specs.Value.{Span, Value, Number, Truth, Composite, Array, Unallocated, Allocated, number_of, conforms, shown}
use Rattle.f3_meaning_whole.specs.Store.{Root}
use Rattle.f3_meaning_whole.specs.Reference.{Reference}
use Rattle.f3_meaning_whole.specs.Ran.{Ran}
use Rattle.f3_meaning_whole.specs.Arithmetic.{converted, value_fits, divided, is_zero, power, apply, change_of}
use Rattle.f3_meaning_whole.specs.Shape.{Parts, nothing, and, spans_declared}
use Rattle.f3_meaning_whole.specs.Act.{Here, Passed, Given, Lent, claim, claim_for, needs_storage, read, Chosen, some_zero_step, all_inside, places, fitted, fitted_contents, fitted_argument, structure, passed_at}
use Rattle.f3_meaning_whole.specs.Eval.{result, built, asked}
use Rattle.f3_meaning_whole.specs.Exec.{request, unless_zero}
use Rattle.f3_pure_laws.proofs.Running.{Quiet, bind_runs, gives_quiet, fails_runs, looks_quiet, does_runs, if_runs, asks_quiet}

module _ (level : ℕ) (free : Root → Bool) (a : ℕ) where
  abbrev Safe : {A : Type 0} → Ran A → Type 0
  Safe {A} r = Quiet level free {A = A} a r

  pub converted_quiet : (t : Base) (v : Value) (place : Place) → Safe (converted t v place)
  unfolding converted
  converted_quiet t v place = if_runs level free (value_fits t v) (gives_quiet level free v) (fails_runs level free _ place)

  divided_quiet : (y : ℤ) (t : Base) (z : ℤ) (place : Place) → Safe (divided y t z place)
  unfolding divided
  divided_quiet y t z place = if_runs level free (is_zero y) (fails_runs level free _ place) (converted_quiet t _ place)

  power_quiet : (x y : ℤ) (t : Base) (place : Place) → Safe (power x y t place)
  power_quiet x (pos n) t place = converted_quiet t _ place
  power_quiet (pos zero) (negsuc n) t place = fails_runs level free _ place
  power_quiet (pos (suc zero)) (negsuc n) t place = gives_quiet level free _
  power_quiet (pos (suc (suc x))) (negsuc n) t place = gives_quiet level free _
  power_quiet (negsuc zero) (negsuc n) t place = gives_quiet level free _
  power_quiet (negsuc (suc x)) (negsuc n) t place = gives_quiet level free _

  pub apply_quiet : (op : BinaryOperator) (t : Base) (x y : Value) (place : Place) → Safe (apply op t x y place)
  apply_quiet o.Add t x y place = converted_quiet t _ place
  apply_quiet o.Subtract t x y place = converted_quiet t _ place
  apply_quiet o.Multiply t x y place = converted_quiet t _ place
  apply_quiet o.Divide t x y place = divided_quiet _ t _ place
  apply_quiet o.Power t x y place = power_quiet (number_of x) (number_of y) t place
  apply_quiet o.Mod t x y place = divided_quiet _ t _ place
  apply_quiet o.Modulo t x y place = divided_quiet _ t _ place
  apply_quiet o.Max t x y place = gives_quiet level free _
  apply_quiet o.Min t x y place = gives_quiet level free _
  apply_quiet o.Equal t x y place = gives_quiet level free _
  apply_quiet o.NotEqual t x y place = gives_quiet level free _
  apply_quiet o.Less t x y place = gives_quiet level free _
  apply_quiet o.LessOrEqual t x y place = gives_quiet level free _
  apply_quiet o.Greater t x y place = gives_quiet level free _
  apply_quiet o.GreaterOrEqual t x y place = gives_quiet level free _
  apply_quiet o.And t x y place = gives_quiet level free _
  apply_quiet o.Or t x y place = gives_quiet level free _
  apply_quiet o.Equivalent t x y place = gives_quiet level free _
  apply_quiet o.NotEquivalent t x y place = gives_quiet level free _

  pub change_quiet : (op : c.UnaryOperator) (t : Base) (x : Value) (place : Place) → Safe (change_of op t x place)
  change_quiet Negate t x place = converted_quiet t _ place
  change_quiet Absolute t x place = converted_quiet t _ place
  change_quiet Not t x place = gives_quiet level free _

  pub claim_quiet : (here : Here) → Safe (claim here)
  claim_quiet here = bind_runs level free (asks_quiet level free) (λ b u. if_runs level free b (fails_runs level free _ here.place) (gives_quiet level free tt))

  pub claim_for_quiet : (v : Value) (here : Here) → Safe (claim_for v here)
  claim_for_quiet v here = if_runs level free (needs_storage v) (claim_quiet here) (gives_quiet level free tt)

  pub built_quiet : (v : Value) (here : Here) → Safe (built v here)
  built_quiet v here = bind_runs level free (claim_for_quiet v here) (λ done u. gives_quiet level free v)

  pub read_quiet : (r : Reference) (here : Here) → Safe (read r here)
  read_quiet r here = bind_runs level free (looks_quiet level free _) (λ v u. bind_runs level free (claim_for_quiet v here) (λ done u. gives_quiet level free v))

  pub places_quiet : (ss : List Span) (cs : List Chosen) (here : Here) → Safe (places ss cs here)
  places_quiet ss cs here = if_runs level free (some_zero_step cs) (fails_runs level free _ here.place) (if_runs level free (all_inside ss cs) (gives_quiet level free _) (fails_runs level free _ here.place))

  pub result_quiet : (v : Value) (here : Here) → Safe (result v here)
  result_quiet (Allocated v) here = gives_quiet level free _
  result_quiet Unallocated here = fails_runs level free _ here.place
  result_quiet (Number z) here = gives_quiet level free _
  result_quiet (Truth b) here = gives_quiet level free _
  result_quiet (Composite vs) here = gives_quiet level free _
  result_quiet (Array ss vs) here = gives_quiet level free _

  pub asked_quiet : (q : Query) (ss : List Span) (z : ℤ) (here : Here) → Safe (asked q ss z here)
  asked_quiet q [] z here = fails_runs level free _ here.place
  asked_quiet q (s ∷ ss) z here = if_runs level free (int_le z (pos 0)) (fails_runs level free _ here.place) (if_runs level free (int_le z (pos 1)) (converted_quiet _ _ here.place) (asked_quiet q ss (z -ℤ pos 1) here))

  fitted_quiet : (d : Declared) (v : Value) (here : Here) → Safe (fitted d v here)
  unfolding fitted
  fitted_quiet d v here =
      if_runs level free d.kind.is_allocatable (bind_runs level free (converted_quiet d.kind.of v here.place) (λ v u. gives_quiet level free _))
      (if_runs level free (conforms (spans_declared d.dimensions.items) v) (bind_runs level free (converted_quiet d.kind.of v here.place) (λ v u. gives_quiet level free _)) (fails_runs level free _ here.place))

  fitted_contents_quiet : (d : Declared) (v : Value) (here : Here) → Safe (fitted_contents d v here)
  fitted_contents_quiet d (Allocated (Array ss vs)) here = fitted_quiet d (Array (shown ss) vs) here
  fitted_contents_quiet d (Allocated (Number z)) here = fitted_quiet d (Number z) here
  fitted_contents_quiet d (Allocated (Truth b)) here = fitted_quiet d (Truth b) here
  fitted_contents_quiet d (Allocated (Composite vs)) here = fitted_quiet d (Composite vs) here
  fitted_contents_quiet d (Allocated Unallocated) here = fitted_quiet d Unallocated here
  fitted_contents_quiet d (Allocated (Allocated v)) here = fitted_quiet d (Allocated v) here
  fitted_contents_quiet d (Number z) here = gives_quiet level free _
  fitted_contents_quiet d (Truth b) here = gives_quiet level free _
  fitted_contents_quiet d (Composite vs) here = gives_quiet level free _
  fitted_contents_quiet d (Array ss vs) here = gives_quiet level free _
  fitted_contents_quiet d Unallocated here = gives_quiet level free _

  fitted_argument_quiet : (d : Declared) (i : Value) (o : Option Passed) (here : Here) → Safe (fitted_argument d i o here)
  fitted_argument_quiet d i None here = gives_quiet level free _
  fitted_argument_quiet d i (Some (Given k v)) here = fitted_quiet d v here
  fitted_argument_quiet d i (Some (Lent k r)) here = bind_runs level free (looks_quiet level free _) (λ v u. fitted_contents_quiet d v here)

  pub structure_quiet : (xs : Parts) (k : ℕ) (ps : List Passed) (here : Here) → Safe (structure xs k ps here)
  structure_quiet nothing k ps here = gives_quiet level free _
  structure_quiet (and c s rest) k ps here =
      bind_runs level free (fitted_argument_quiet c.declared _ (passed_at k ps) here) (λ v u. bind_runs level free (claim_for_quiet v here) (λ done u. bind_runs level free (structure_quiet rest (suc k) ps here) (λ vs u. gives_quiet level free _)))

  pub request_quiet : Safe request
  request_quiet = bind_runs level free (asks_quiet level free) (λ b u. bind_runs level free (does_runs level free _ (λ s. (tt, tt)) (λ s e. e)) (λ done u. gives_quiet level free _))

  pub unless_quiet : (z : ℤ) (here : Here) → Safe (unless_zero z here)
  unless_quiet z here = if_runs level free (is_zero z) (fails_runs level free _ here.place) (gives_quiet level free tt)
