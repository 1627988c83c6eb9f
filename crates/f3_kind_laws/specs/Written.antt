-- Initializers such as a source may spell (ISO/IEC 1539-1:2004, 5.1).
use Rattle.std.specs.Prelude.{⊤}
use Rattle.f3_tree.specs.Declarations.{EntityTree, SpecificationTree, declares}
use Rattle.f3_tree.specs.Tree.{ProcedureTree, UnitTree, Tree}
use Rattle.f3_lawful_laws.specs.Blocks.{IsStepWritten}
use Rattle.f3_meaning_whole.specs.Permitted.{Each}

-- each initializer of a declaration is written
abbrev pub IsSpecificationWritten : SpecificationTree → Type 0
IsSpecificationWritten (declares d) = Each (λ (x : EntityTree). IsStepWritten x.initial) d.entities
IsSpecificationWritten _ = ⊤

abbrev pub IsUnitWritten : UnitTree → Type 0
IsUnitWritten u =
    Each IsSpecificationWritten (u.part).specifications × Each (λ (q : ProcedureTree). Each IsSpecificationWritten (q.part).specifications) u.procedures

-- so of all specification parts of a program
abbrev pub AreInitialsWritten : Tree → Type 0
AreInitialsWritten t = Each IsUnitWritten t.units
