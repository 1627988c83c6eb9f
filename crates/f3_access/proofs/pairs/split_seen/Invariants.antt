use Rattle.std.proofs.Common.{◌≡◌, length}
use Rattle.f3_access.specs.Parts.{seen_in}
use Rattle.f3_access.proofs.pairs.split_seen.Given as goal

abbrev pub invariant-loop-first : goal.invariant-loop-first
invariant-loop-first l = seen_in l.tables.scopes.items l.scope l.other l.left ≡ seen_in l.tables.scopes.items l.scope l.other l.pairs

abbrev pub decreases-loop-first : goal.decreases-loop-first
decreases-loop-first l = length l.left
