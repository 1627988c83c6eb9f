use Rattle.std.proofs.Common.{length}
use Rattle.f3_word_calls.proofs.bounds.+base.Given as goal

abbrev pub decreases-base : goal.decreases-base
decreases-base l = length l.lowers.now
