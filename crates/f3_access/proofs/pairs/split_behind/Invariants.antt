use Rattle.std.proofs.Common.{◌≡◌}
use Rattle.f3_access.specs.Pairs.{seen_behind}
use Rattle.f3_access.proofs.pairs.split_behind.Given as goal

abbrev pub invariant-loop-first : goal.invariant-loop-first
invariant-loop-first l = seen_behind l.tables.scopes.items l.scope l.holder l.left ≡ seen_behind l.tables.scopes.items l.scope l.other l.pairs

abbrev pub decreases-loop-first : goal.decreases-loop-first
decreases-loop-first l = l.holder
