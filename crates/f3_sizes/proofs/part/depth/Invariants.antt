use Rattle.f3_sizes.specs.Part.{IsGreatest}
use Rattle.f3_sizes.proofs.part.depth.Given as goal

abbrev pub invariant-loop-one : goal.invariant-loop-one
invariant-loop-one l = IsGreatest l.one-items l.one-index l.greatest
