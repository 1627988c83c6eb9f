use Rattle.std.proofs.Common.{◌≡◌, ◌++◌, map, drop}
use Rattle.f3_scopes.specs.Scopes.{own}
use Rattle.f3_tree.specs.Declarations.{placed_view, entity_view}
use Rattle.f3_scopes.specs.Outlines.{own_view}
use Rattle.f3_scopes.proofs.walk.owns.Given as goal

abbrev pub invariant-loop-entity : goal.invariant-loop-entity
invariant-loop-entity l = map own_view l.found.items ++ map (own (map placed_view l.fn.declaration.attributes.items)) (map entity_view (drop l.entity-index l.entity-items)) ≡ map own_view l.fn.found.items ++ map (own (map placed_view l.fn.declaration.attributes.items)) (map entity_view l.fn.declaration.entities.items)
