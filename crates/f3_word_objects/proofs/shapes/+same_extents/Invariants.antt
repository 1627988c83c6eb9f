use Rattle.std.proofs.Common.{length}
use Rattle.f3_word_objects.proofs.shapes.+same_extents.Given as goal

abbrev pub decreases-same_extents : goal.decreases-same_extents
decreases-same_extents l = length l.left.now
