use Rattle.std.proofs.Common.{length}
use Rattle.f3_located.proofs.pins.+goes_through_contents.Given as goal

abbrev pub decreases-goes_through_contents : goal.decreases-goes_through_contents
decreases-goes_through_contents l = length l.way.now
