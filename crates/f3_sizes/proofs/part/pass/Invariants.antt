use Rattle.f3_sizes.proofs.Passing.{Passed}
use Rattle.f3_sizes.proofs.part.pass.Given as goal

abbrev pub invariant-loop-at : goal.invariant-loop-at
invariant-loop-at l = Passed l.lines l.fn.heights l.heights l.at
