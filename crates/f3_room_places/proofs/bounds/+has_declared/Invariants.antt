use Rattle.std.proofs.Common.{length}
use Rattle.f3_room_places.proofs.bounds.+has_declared.Given as goal

abbrev pub decreases-has_declared : goal.decreases-has_declared
decreases-has_declared l = length l.dimensions.now
