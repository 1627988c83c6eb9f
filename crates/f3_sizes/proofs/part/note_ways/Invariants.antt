use Rattle.f3_sizes.proofs.Ways.{WaysNoted}
use Rattle.f3_sizes.proofs.part.note_ways.Given as goal

abbrev pub invariant-loop-way : goal.invariant-loop-way
invariant-loop-way l = WaysNoted l.fn.heights l.heights l.at l.cells l.fn.act l.way-items l.way-index
