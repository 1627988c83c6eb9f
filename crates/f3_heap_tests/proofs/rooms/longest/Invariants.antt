-- No run is longer than what was passed.
use Rattle.std.proofs.Common.{◌≤◌}
use Rattle.f3_heap_tests.proofs.rooms.longest.Given as goal

abbrev pub invariant-loop-marked : goal.invariant-loop-marked
invariant-loop-marked l = (l.run ≤ l.marked-index) × (l.best ≤ l.marked-index)
