use Rattle.std.proofs.Common.{◌≡◌, ◌++◌, map, drop}
use Rattle.std.specs.List.{flat_map}
use Rattle.f3_tree.specs.Declarations.{entity_view}
use Rattle.f3_part_names.specs.Names.{named_entity}
use Rattle.f3_part_names.proofs.naming.entities.Given as goal

abbrev pub invariant-loop-one : goal.invariant-loop-one
invariant-loop-one l = l.names.items ++ flat_map named_entity (map entity_view (drop l.one-index l.list)) ≡ l.fn.names.items ++ flat_map named_entity (map entity_view l.list)
