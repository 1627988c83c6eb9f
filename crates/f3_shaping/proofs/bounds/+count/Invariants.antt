use Rattle.std.proofs.Common.{length}
use Rattle.f3_shaping.proofs.bounds.+count.Given as goal

abbrev pub decreases-count : goal.decreases-count
decreases-count l = length l.spans.now
