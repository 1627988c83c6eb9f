-- What pure procedures may destroy.
use Rattle.std.proofs.Common.{◌≡◌, ℕ, suc, Bool, true, Option, None, Some, refl, sym}
use Rattle.std.specs.Prelude.{slice_get}
use mathlib.Core.Path.{subst}
use Rattle.f3_program.specs.declared.declarations.Base.{Base}
use Rattle.f3_program.specs.declared.declarations.Base.TheVariants as base
use Rattle.f3_program.specs.declared.declarations.Derived.{Derived}
use Rattle.f3_program.specs.declared.declarations.Final.{Final}
use Rattle.f3_program.specs.declared.program.Program.{Program}
use Rattle.f3_meaning_whole.specs.Shape.{Shape, Whole, Logical, Record, Parts, nothing, and, shape_in, shapes_of}
use Rattle.f3_meaning_whole.specs.Act.{component_type}
use Rattle.f3_meaning_whole.specs.Permitted.{Each}
use Rattle.f3_meaning_laws.proofs.Shapes.{IsShape, AreParts, shapes_are}
use Rattle.f3_pure_laws.specs.Pure.{finals_of, HasPureFinals, HavePureFinals}
use Rattle.f3_pure_laws.specs.Ending.{IsHarmless, AreHarmless, HarmlessMayEnd}

module _ (p : Program) (pure harmless : ℕ → Bool) (h : AreHarmless p pure harmless) where
  finals_pure : (t : ℕ) → harmless t ≡ true → (o : Option Derived) → slice_get p.types.items t ≡ o → Each (λ (f : Final). pure f.procedure ≡ true) (finals_of o)
  finals_pure t e None there = tt
  finals_pure t e (Some y) there = h.finals t y there e

  mutual
    ends : (s : Shape) (of : Base) → IsShape p.types.items s of → IsHarmless harmless of → HasPureFinals p pure s
    ends Whole of i e = tt
    ends Logical of i e = tt
    ends (Record t parts) of i e =
        let k : harmless t ≡ true = subst (IsHarmless harmless) i.0 e in
        (finals_pure t k (slice_get p.types.items t) refl, parts_end parts of t i.0 0 i.1 k)

    parts_end : (xs : Parts) (of : Base) (t : ℕ) → of ≡ base.Derived t → (k : ℕ) → AreParts p.types.items xs of k → harmless t ≡ true → HavePureFinals p pure xs
    parts_end nothing of t same k i e = tt
    parts_end (and c s rest) of t same k i e = (
      ends s (component_type p.types.items of k) i.0 (subst (λ b. IsHarmless harmless (component_type p.types.items b k)) (sym same) (h.components t k e)),
      parts_end rest of t same (suc k) i.1 e,
    )

pub harmless_may_end : HarmlessMayEnd
harmless_may_end p pure harmless h of e = ends p pure harmless h (shape_in (shapes_of p.types.items) of) of (shapes_are p.types.items of) e
