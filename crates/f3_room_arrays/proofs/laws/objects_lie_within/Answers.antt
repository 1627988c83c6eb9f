use Rattle.f3_room_arrays.proofs.Told.{objects_lie_within}
use Rattle.f3_room_arrays.proofs.laws.objects_lie_within.Goals as goal

pub returns : goal.returns
returns c = objects_lie_within
