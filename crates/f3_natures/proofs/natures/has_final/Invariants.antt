use Rattle.std.proofs.Common.{◌≡◌, drop}
use Rattle.std.specs.List.{list_any}
use Rattle.f3_natures.specs.Known.{names_view}
use Rattle.f3_natures.specs.Walk.{is_final}
use Rattle.f3_natures.proofs.natures.has_final.Given as goal

abbrev pub invariant-loop-name : goal.invariant-loop-name
invariant-loop-name l =
    list_any (is_final (names_view l.names) l.scope l.first l.finals l.entity) (drop l.name-index l.list)
    ≡ list_any (is_final (names_view l.names) l.scope l.first l.finals l.entity) l.list
