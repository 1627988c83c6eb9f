use Rattle.std.proofs.Common.{◌≡◌, ◌++◌, map, drop}
use Rattle.f3_scopes.specs.Outlines.{scope_view}
use Rattle.f3_names.specs.Entities.{entities_from, described}
use Rattle.f3_names.proofs.describing.described.Given as goal

abbrev pub invariant-loop-number : goal.invariant-loop-number
invariant-loop-number l =
    l.entities.items ++ entities_from (map scope_view l.outlines) l.number (map scope_view (drop l.number l.outlines)) ≡ described (map scope_view l.outlines)
