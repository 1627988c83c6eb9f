use Rattle.std.proofs.Common.{length}
use Rattle.f3_room_frames.proofs.parts.+part_of.Given as goal

abbrev pub decreases-part_of : goal.decreases-part_of
decreases-part_of l = length l.tables.now
