use Rattle.f3_rooms.proofs.Allocating.{objects_are_allocated}
use Rattle.f3_rooms.proofs.laws.objects_are_allocated.Goals as goal

pub returns : goal.returns
returns c = objects_are_allocated
