use Rattle.std.proofs.Common.{◌≡◌, ◌++◌, map, drop}
use Rattle.f3_scopes.specs.Outlines.{Own, own_view}
use Rattle.f3_scenes.proofs.kinds.add_kinds.Given as goal

abbrev pub invariant-loop-declared : goal.invariant-loop-declared
invariant-loop-declared l =
    l.found.items ++ map (λ (d : Own). d.kind) (map own_view (drop l.declared-index l.list)) ≡ l.fn.found.items ++ map (λ (d : Own). d.kind) (map own_view l.list)
