-- What components take.
use Rattle.std.proofs.Common.{◌≡◌, refl, ap, true, false}
use Rattle.f3_places.specs.declared.source.Place.{Place}
use Rattle.f3_program.specs.declared.declarations.Declared.{Declared}
use Rattle.f3_meaning_whole.specs.Value as m
use Rattle.f3_meaning_whole.specs.Value.{conforms}
use Rattle.f3_meaning_whole.specs.Shape.{spans_declared}
use Rattle.f3_meaning_whole.specs.Ran.{Ran, ◌>>=◌, gives, fails}
use Rattle.f3_meaning_whole.specs.declared.run_error.RunError.{RunError}
use Rattle.f3_meaning_whole.specs.declared.run_error.RunError.TheVariants.{ShapesDiffer}
use Rattle.f3_meaning_whole.specs.Act.{Here, fitted, fitted_contents}
use Rattle.f3_shaping.specs.Results.{held_ran, laid_ran, shown_value}

pub given_then : {A B : Type 0} (r : Ran A) (x : A) (f : A → Ran B) → gives x ≡ r → f x ≡ (r >>= f)
unfolding ◌>>=◌ gives
given_then r x f e = ap (λ m. m >>= f) e

pub failed_then : {A B : Type 0} (r : Ran A) (error : RunError) (place : Place) (f : A → Ran B) → fails error place ≡ r → fails error place ≡ (r >>= f)
unfolding ◌>>=◌ fails
failed_then r error place f e = ap (λ m. m >>= f) e

pub takes_held : (d : Declared) (v : m.Value) (here : Here) (r : Ran m.Value) → d.kind.is_allocatable ≡ true → r ≡ held_ran d.kind.of v here.place →
    r ≡ fitted d v here
unfolding fitted
takes_held d v here r h e = rw h e

pub takes_laid : (d : Declared) (v : m.Value) (here : Here) (r : Ran m.Value) → d.kind.is_allocatable ≡ false →
    conforms (spans_declared d.dimensions.items) v ≡ true →
    r ≡ laid_ran d (spans_declared d.dimensions.items) v here.place → r ≡ fitted d v here
unfolding fitted
takes_laid d v here r h k e = rw (h, k) e

pub differs : (d : Declared) (v : m.Value) (here : Here) → d.kind.is_allocatable ≡ false → conforms (spans_declared d.dimensions.items) v ≡ false →
    fails ShapesDiffer here.place ≡ fitted d v here
unfolding fitted
differs d v here h k = rw (h, k) refl

pub takes_contents : (d : Declared) (v : m.Value) (here : Here) → fitted d (shown_value v) here ≡ fitted_contents d (m.Allocated v) here
takes_contents d (m.Number z) here = refl
takes_contents d (m.Truth b) here = refl
takes_contents d (m.Composite vs) here = refl
takes_contents d (m.Array ss vs) here = refl
takes_contents d m.Unallocated here = refl
takes_contents d (m.Allocated x) here = refl
