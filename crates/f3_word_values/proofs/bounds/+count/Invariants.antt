use Rattle.std.proofs.Common.{length}
use Rattle.f3_word_values.proofs.bounds.+count.Given as goal

abbrev pub decreases-count : goal.decreases-count
decreases-count l = length l.dims.now
