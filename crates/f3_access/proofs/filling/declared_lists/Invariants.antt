use Rattle.std.proofs.Common.{◌≡◌, ◌++◌, length, drop, map}
use Rattle.f3_scopes.specs.Outlines.{scope_view}
use Rattle.f3_access.specs.Listing.{lists_from}
use Rattle.f3_access.proofs.filling.declared_lists.Given as goal

abbrev pub invariant-loop-outline : goal.invariant-loop-outline
invariant-loop-outline l =
    map (λ x. x.items) l.lists.items ++ lists_from (length l.before.items) (map scope_view (drop l.outline-index l.outlines)) ≡ lists_from 0 (map scope_view l.outlines)
