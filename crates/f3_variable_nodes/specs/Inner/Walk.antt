-- The variables that live for the whole run, by the numbers of scopes and the entities that these declare first.
use Rattle.std.specs.Prelude.{ℕ, ◌+◌, ◌≤◌, List, [], ◌∷◌, ◌++◌, length, filter, get_or}
use Rattle.f3_tree.specs.declared.program.UnitKind.{UnitKind}
use Rattle.f3_tree.specs.declared.program.UnitKind.TheVariants as unit
use Rattle.f3_tree.specs.Declarations.{SpecificationTree}
use Rattle.f3_tree.specs.Tree.{ProcedureTree, UnitTree}
use Rattle.f3_natures.specs.Walk.{along, unit_start, unit_end}
use Rattle.f3_unit_rules.specs.Members.{typed_count}
use Rattle.f3_unit_rules.specs.Units.{UnitFits}
use Rattle.f3_elaboration.specs.Numbers.{Variable, along_part, names_in, is_static_in}

abbrev pub part_statics : UnitKind → (unit scope entity : ℕ) → List SpecificationTree → List Variable
part_statics kind u s e ss = filter (is_static_in kind) (along_part (names_in u s) e ss)

abbrev pub procedure_statics : (firsts : List ℕ) → (unit : ℕ) → (scope : ℕ) → ProcedureTree → List Variable
procedure_statics firsts u s p = part_statics unit.Program u s (get_or firsts s 0 + typed_count (p.header).kind) (p.part).specifications

abbrev pub unit_statics_by : (firsts : List ℕ) → (scope : ℕ) → UnitTree → List Variable
unit_statics_by firsts s u =
    part_statics u.kind s s (get_or firsts s 0) (u.part).specifications ++ along (procedure_statics firsts s) (unit_start s u) u.procedures

abbrev pub statics_from : (firsts : List ℕ) → (scope : ℕ) → List UnitTree → List Variable
statics_from firsts s [] = []
statics_from firsts s (u ∷ us) = unit_statics_by firsts s u ++ statics_from firsts (unit_end s u) us

-- There is a number for each first entity of the units and procedures, of which the first has this scope, and for all that they declare.
abbrev pub AllFit : (firsts : List ℕ) → (room : ℕ) → (scope : ℕ) → List UnitTree → Type 0
AllFit firsts room s [] = s ≤ length firsts
AllFit firsts room s (u ∷ us) = UnitFits firsts room s u × AllFit firsts room (unit_end s u) us
