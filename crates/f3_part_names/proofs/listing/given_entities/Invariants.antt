use Rattle.std.proofs.Common.{◌≡◌, ◌++◌, map, drop}
use Rattle.std.specs.List.{flat_map}
use Rattle.f3_part_names.specs.Given.{given_to}
use Rattle.f3_tree.specs.Declarations.{entity_view}
use Rattle.f3_part_names.proofs.listing.given_entities.Given as goal

abbrev pub invariant-loop-entity : goal.invariant-loop-entity
invariant-loop-entity l = l.found.items ++ flat_map (given_to l.accesses) (map entity_view (drop l.entity-index l.entities)) ≡ l.fn.found.items ++ flat_map (given_to l.accesses) (map entity_view l.entities)
