use Rattle.std.proofs.Common.{length}
use Rattle.f3_word_values.proofs.bounds.+asked.Given as goal

abbrev pub decreases-asked : goal.decreases-asked
decreases-asked l = length l.dims.now
