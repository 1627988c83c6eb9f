use Rattle.std.proofs.Common.{◌≡◌, false, replicate}
use Rattle.f3_finalizable.proofs.marks.unmarked.Given as goal

abbrev pub invariant-loop-each : goal.invariant-loop-each
invariant-loop-each l = l.marks.items ≡ replicate l._each false
