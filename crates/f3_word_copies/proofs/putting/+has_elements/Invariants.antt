use Rattle.std.proofs.Common.{length}
use Rattle.f3_word_copies.proofs.putting.+has_elements.Given as goal

abbrev pub decreases-has_elements : goal.decreases-has_elements
decreases-has_elements l = length l.dims.now
