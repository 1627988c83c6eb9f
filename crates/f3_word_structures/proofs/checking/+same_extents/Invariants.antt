use Rattle.std.proofs.Common.{length}
use Rattle.f3_word_structures.proofs.checking.+same_extents.Given as goal

abbrev pub decreases-same_extents : goal.decreases-same_extents
decreases-same_extents l = length l.declared.now
