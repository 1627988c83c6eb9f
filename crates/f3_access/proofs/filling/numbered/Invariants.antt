use Rattle.std.proofs.Common.{◌≡◌, ◌++◌, ◌+◌, length, drop, map}
use Rattle.f3_scopes.specs.Outlines.{own_view}
use Rattle.f3_access.specs.Listing.{numbered}
use Rattle.f3_access.proofs.filling.numbered.Given as goal

abbrev pub invariant-loop-declaration : goal.invariant-loop-declaration
invariant-loop-declaration l =
    (l.pairs.items ++ numbered (length l.before.items) (map own_view (drop l.declaration-index l.declared)) ≡ numbered (length l.fn.before.items) (map own_view l.declared))
    × (length l.before.items + length (map own_view (drop l.declaration-index l.declared)) ≡ length l.fn.before.items + length (map own_view l.declared))
