use Rattle.std.proofs.Common.{◌≡◌, [], replicate}
use Rattle.f3_finalizable.specs.Inner.Holders.{rows_of}
use Rattle.f3_finalizable.proofs.holders.empty_lists.Given as goal

abbrev pub invariant-loop-each : goal.invariant-loop-each
invariant-loop-each l = rows_of l.lists.items ≡ replicate l._each []
