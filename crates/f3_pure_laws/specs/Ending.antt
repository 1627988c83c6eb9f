-- Types whose objects a pure procedure may destroy.
use Rattle.std.specs.Prelude.{⊤, ◌≡◌, ℕ, Bool, true, Some, slice_get}
use Rattle.f3_program.specs.declared.declarations.Base.{Base}
use Rattle.f3_program.specs.declared.declarations.Base.TheVariants as base
use Rattle.f3_program.specs.declared.declarations.Derived.{Derived}
use Rattle.f3_program.specs.declared.declarations.Final.{Final}
use Rattle.f3_program.specs.declared.program.Program.{Program}
use Rattle.f3_meaning_whole.specs.Act.{component_type}
use Rattle.f3_meaning_whole.specs.Permitted.{Each}
use Rattle.f3_pure_laws.specs.Pure.{MayEnd}

-- a type is none of those with a number, or it is among these
abbrev pub IsHarmless : (harmless : ℕ → Bool) → Base → Type 0
IsHarmless harmless base.Integer = ⊤
IsHarmless harmless base.Long = ⊤
IsHarmless harmless base.Logical = ⊤
IsHarmless harmless (base.Derived t) = harmless t ≡ true

-- types whose final subroutines are pure, and whose components are of such types (4.5.5)
pub record AreHarmless (p : Program) (pure : ℕ → Bool) (harmless : ℕ → Bool) : Type 0 where
  pub finals : (t : ℕ) (y : Derived) → slice_get p.types.items t ≡ Some y → harmless t ≡ true → Each (λ (f : Final). pure f.procedure ≡ true) y.finals.items
  pub components : (t k : ℕ) → harmless t ≡ true → IsHarmless harmless (component_type p.types.items (base.Derived t) k)

-- An object of such a type may be destroyed by a pure procedure.
abbrev pub HarmlessMayEnd : Type 0
HarmlessMayEnd = (p : Program) (pure harmless : ℕ → Bool) → AreHarmless p pure harmless → (of : Base) → IsHarmless harmless of → MayEnd p pure of
