use Rattle.std.proofs.Common.{◌≡◌, ◌++◌, map, drop}
use Rattle.f3_scopes.specs.Outlines.{scope_view}
use Rattle.f3_type_rules.specs.Scene.{holders_from}
use Rattle.f3_scenes.proofs.holders.holders.Given as goal

abbrev pub invariant-loop-number : goal.invariant-loop-number
invariant-loop-number l =
    l.found.items ++ holders_from l.number (map scope_view (drop l.number l.outlines)) ≡ holders_from 0 (map scope_view l.outlines)
