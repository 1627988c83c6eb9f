use Rattle.std.proofs.Common.{length}
use Rattle.f3_type_words.proofs.words.+elements.Given as goal

abbrev pub decreases-elements : goal.decreases-elements
decreases-elements l = length l.bounds.now
