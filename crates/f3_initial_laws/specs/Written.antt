-- Declarations such as a source may spell: their initializers, and the bounds of their shapes (ISO/IEC 1539-1:2004, 5.1).
use Rattle.std.specs.Prelude.{⊤, Option, None, Some}
use Rattle.f3_tree.specs.Declarations.{Bounds, ShapeTree, explicit, deferred, AttributeTree, dimension, Placed, EntityTree, DeclarationTree}
use Rattle.f3_tree.specs.Declarations.{SpecificationTree, declares, defines}
use Rattle.f3_tree.specs.Tree.{ProcedureTree, UnitTree, Tree}
use Rattle.f3_lawful_laws.specs.Written.{IsWritten}
use Rattle.f3_lawful_laws.specs.Blocks.{IsStepWritten}
use Rattle.f3_meaning_whole.specs.Permitted.{Each}

abbrev pub AreBoundsWritten : Bounds → Type 0
AreBoundsWritten b = IsStepWritten b.lower × IsWritten b.upper

abbrev pub IsShapeWritten : ShapeTree → Type 0
IsShapeWritten (explicit bs) = Each AreBoundsWritten bs
IsShapeWritten (deferred ls) = ⊤

abbrev pub IsShapeGiven : Option ShapeTree → Type 0
IsShapeGiven None = ⊤
IsShapeGiven (Some s) = IsShapeWritten s

abbrev pub IsEntityWritten : EntityTree → Type 0
IsEntityWritten x = IsShapeGiven x.shape × IsStepWritten x.initial

abbrev pub IsAttributeWritten : AttributeTree → Type 0
IsAttributeWritten (dimension s) = IsShapeWritten s
IsAttributeWritten _ = ⊤

abbrev pub IsDeclarationWritten : DeclarationTree → Type 0
IsDeclarationWritten d = Each (λ (a : Placed). IsAttributeWritten a.attribute) d.attributes × Each IsEntityWritten d.entities

-- of a type, the declarations of its components
abbrev pub IsSpecificationWritten : SpecificationTree → Type 0
IsSpecificationWritten (declares d) = IsDeclarationWritten d
IsSpecificationWritten (defines t) = Each IsDeclarationWritten t.components
IsSpecificationWritten _ = ⊤

abbrev pub IsUnitWritten : UnitTree → Type 0
IsUnitWritten u =
    Each IsSpecificationWritten (u.part).specifications × Each (λ (q : ProcedureTree). Each IsSpecificationWritten (q.part).specifications) u.procedures

-- so of all specification parts of a program
abbrev pub AreDeclarationsWritten : Tree → Type 0
AreDeclarationsWritten t = Each IsUnitWritten t.units
