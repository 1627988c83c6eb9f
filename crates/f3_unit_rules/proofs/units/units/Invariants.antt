use Rattle.std.proofs.Common.{◌≡◌, List, map, take, vec_len}
use Rattle.std.specs.List.{flat_map}
use Rattle.f3_scopes.specs.Outlines.{Scope}
use Rattle.f3_graph.specs.declared.UnitId.{UnitId}
use Rattle.f3_tree.specs.Tree.{unit_view}
use Rattle.f3_typed_parts.specs.Noted.{noted}
use Rattle.f3_type_rules.specs.Declarations.{unit_rows, unit_next}
use Rattle.f3_type_rules.specs.Members.{units_from}
use Rattle.f3_type_rules.specs.Scene.{Scene}
use Rattle.f3_type_rules.specs.Walks.{after, along, Known}
use Rattle.f3_entities.specs.Growth.{Stands}
use Rattle.f3_part_rules.specs.Members.{AreFirsts}
use Rattle.f3_unit_rules.specs.Units.{AreNumbers}
use Rattle.f3_unit_rules.specs.Inner.Steps.{found_at}
use Rattle.f3_unit_rules.proofs.units.units.Given as goal

abbrev pub invariant-loop-unit : goal.invariant-loop-unit
invariant-loop-unit l = record {
  noted : (s : Scene) (k : Known) (scopes : List Scope) → Stands s l.fn.growth k → AreFirsts scopes l.firsts → AreNumbers scopes l.numbers (map unit_view l.list)
      → l.first ≡ noted l.fn.first (along (unit_rows s) (unit_next s) k (flat_map (λ (x : UnitId). found_at (units_from scopes 0 (map unit_view l.list)) x.number) (take l.unit-index l.unit-items)));
  stands : (s : Scene) (k : Known) (scopes : List Scope) → Stands s l.fn.growth k → AreFirsts scopes l.firsts → AreNumbers scopes l.numbers (map unit_view l.list)
      → Stands s l.growth (after (unit_next s) k (flat_map (λ (x : UnitId). found_at (units_from scopes 0 (map unit_view l.list)) x.number) (take l.unit-index l.unit-items)));
  values : vec_len l.growth.known.values ≡ vec_len l.fn.growth.known.values;
  cells : vec_len l.growth.cells ≡ vec_len l.fn.growth.cells;
}
