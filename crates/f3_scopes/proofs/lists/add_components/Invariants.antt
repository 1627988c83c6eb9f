use Rattle.std.proofs.Common.{◌≡◌, ◌++◌, map, drop}
use Rattle.f3_scopes.specs.Scopes.{component}
use Rattle.f3_tree.specs.Declarations.{placed_view, entity_view}
use Rattle.f3_scopes.specs.Outlines.{part_view}
use Rattle.f3_scopes.proofs.lists.add_components.Given as goal

abbrev pub invariant-loop-entity : goal.invariant-loop-entity
invariant-loop-entity l = map part_view l.found.items ++ map (component (map placed_view l.fn.declaration.attributes.items)) (map entity_view (drop l.entity-index l.entity-items)) ≡ map part_view l.fn.found.items ++ map (component (map placed_view l.fn.declaration.attributes.items)) (map entity_view l.fn.declaration.entities.items)
