use Rattle.f3_room_frames.proofs.Changing.{objects_are_freed}
use Rattle.f3_room_frames.proofs.changes.objects_are_freed.Goals as goal

pub returns : goal.returns
returns c = objects_are_freed
