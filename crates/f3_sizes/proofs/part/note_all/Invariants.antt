use Rattle.f3_sizes.specs.Part.{unnoted}
use Rattle.f3_sizes.proofs.Reaching.{Reached}
use Rattle.f3_sizes.proofs.part.note_all.Given as goal

abbrev pub invariant-loop-back : goal.invariant-loop-back
invariant-loop-back l = Reached l.lines l.first l.heights l.from

abbrev pub decreases-loop-back : goal.decreases-loop-back
decreases-loop-back l = unnoted l.heights
