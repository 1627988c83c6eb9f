use Rattle.std.proofs.Common.{length}
use Rattle.f3_room_arrays.proofs.runs.+further.Given as goal

abbrev pub decreases-further : goal.decreases-further
decreases-further l = length l.dims.now
