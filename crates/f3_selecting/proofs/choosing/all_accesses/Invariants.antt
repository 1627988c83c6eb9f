use Rattle.std.proofs.Common.{◌≡◌, ◌++◌, drop, map}
use Rattle.f3_scopes.specs.Outlines.{scope_view}
use Rattle.f3_selecting.specs.Private.{is_private}
use Rattle.f3_selecting.specs.Private.{makes_private}
use Rattle.f3_selecting.proofs.choosing.all_accesses.Given as goal

abbrev pub invariant-loop-outline : goal.invariant-loop-outline
invariant-loop-outline l =
    map makes_private l.all.items ++ map is_private (map scope_view (drop l.outline-index l.outlines)) ≡ map is_private (map scope_view l.outlines)
