use Rattle.std.proofs.Common.{length}
use Rattle.f3_word_calls.proofs.bounds.+show.Given as goal

abbrev pub decreases-show : goal.decreases-show
decreases-show l = length l.dims.now
