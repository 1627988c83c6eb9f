use Rattle.std.proofs.Common.{◌≡◌, ◌++◌, map, drop}
use Rattle.f3_scopes.specs.Outlines.{own_view}
use Rattle.f3_names.specs.Inner.Making.{entity_by}
use Rattle.f3_names.proofs.describing.add_declared.Given as goal

abbrev pub invariant-loop-declaration : goal.invariant-loop-declaration
invariant-loop-declaration l =
    l.entities.items ++ map (entity_by l.number l.unit l.home l.protects.keys) (map own_view (drop l.declaration-index l.declared))
    ≡ l.fn.entities.items ++ map (entity_by l.number l.unit l.home l.protects.keys) (map own_view l.declared)
