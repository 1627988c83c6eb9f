use Rattle.std.proofs.Common.{◌≡◌, ◌++◌, map, drop}
use Rattle.f3_scopes.specs.Scopes.{only_item}
use Rattle.f3_scopes.proofs.walk.only_items.Given as goal

abbrev pub invariant-loop-only : goal.invariant-loop-only
invariant-loop-only l = l.items.items ++ map only_item (drop l.only-index l.list) ≡ map only_item l.list
