-- The procedures of units, and which unit is the main program.
use Rattle.std.specs.Prelude.{ℕ, suc, List, [], ◌∷◌, Option, None, Some, map, if◌then◌else◌}
use Rattle.std.specs.Option.{option_map}
use Rattle.f3_tree.specs.Tree.{UnitTree}
use Rattle.f3_type_rules.specs.Members.{Numbered}
use Rattle.f3_elaboration.specs.Declarations.{Whole}
use Rattle.f3_elaboration.specs.Nodes.{ProcedureNode}
use Rattle.f3_elaboration.specs.Program.{is_main}
use Rattle.f3_elaboration.specs.Units.{procedure}

abbrev pub procedures_in : Whole → Numbered → List ProcedureNode
procedures_in w u = map (procedure w u.scope) u.members

-- the place of the first main program among units (ISO/IEC 1539-1:2004, 11.1)
abbrev pub main_place : List UnitTree → Option ℕ
main_place [] = None
main_place (u ∷ us) = if is_main u.kind then Some 0 else option_map suc (main_place us)
