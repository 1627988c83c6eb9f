use Rattle.f3_sizes.specs.Parts.{AreDepths}
use Rattle.f3_sizes.proofs.needs.depths.Given as goal

abbrev pub invariant-loop-at : goal.invariant-loop-at
invariant-loop-at l = AreDepths l.lines l.starts l.end l.first l.at l.found.items
