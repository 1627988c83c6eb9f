use Rattle.f3_rooms.proofs.Freeing.{objects_are_freed}
use Rattle.f3_rooms.proofs.laws.objects_are_freed.Goals as goal

pub returns : goal.returns
returns c = objects_are_freed
