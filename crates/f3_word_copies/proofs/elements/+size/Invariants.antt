use Rattle.std.proofs.Common.{length}
use Rattle.f3_word_copies.proofs.elements.+size.Given as goal

abbrev pub decreases-size : goal.decreases-size
decreases-size l = length l.dims.now
