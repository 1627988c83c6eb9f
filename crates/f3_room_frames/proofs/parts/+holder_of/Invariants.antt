use Rattle.std.proofs.Common.{length}
use Rattle.f3_room_frames.proofs.parts.+holder_of.Given as goal

abbrev pub decreases-holder_of : goal.decreases-holder_of
decreases-holder_of l = length l.tables.now
