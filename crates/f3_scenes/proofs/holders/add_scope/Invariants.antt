use Rattle.std.proofs.Common.{◌≡◌, ◌++◌, map, drop}
use Rattle.f3_scopes.specs.Outlines.{own_view, scope_view}
use Rattle.f3_type_rules.specs.Scene.{holder}
use Rattle.f3_scenes.proofs.holders.add_scope.Given as goal

abbrev pub invariant-loop-declared : goal.invariant-loop-declared
invariant-loop-declared l =
    l.found.items ++ map (holder l.fn.number (scope_view l.fn.outline)) (map own_view (drop l.declared-index l.declared-items))
    ≡ l.fn.found.items ++ map (holder l.fn.number (scope_view l.fn.outline)) (scope_view l.fn.outline).declared
