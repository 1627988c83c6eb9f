use Rattle.std.proofs.Common.{◌≡◌, ◌++◌, map, drop}
use Rattle.f3_access.specs.Access.{entities_of}
use Rattle.f3_scopes.specs.Outlines.{Own, scope_view}
use Rattle.f3_scenes.proofs.kinds.kinds.Given as goal

abbrev pub invariant-loop-outline : goal.invariant-loop-outline
invariant-loop-outline l =
    l.found.items ++ map (λ (d : Own). d.kind) (entities_of (map scope_view (drop l.outline-index l.outlines))) ≡ map (λ (d : Own). d.kind) (entities_of (map scope_view l.outlines))
