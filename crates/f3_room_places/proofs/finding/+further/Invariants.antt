use Rattle.std.proofs.Common.{length}
use Rattle.f3_room_places.proofs.finding.+further.Given as goal

abbrev pub decreases-further : goal.decreases-further
decreases-further g l = length l.steps.now
