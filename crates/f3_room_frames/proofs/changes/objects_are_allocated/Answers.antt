use Rattle.f3_room_frames.proofs.Changing.{objects_are_allocated}
use Rattle.f3_room_frames.proofs.changes.objects_are_allocated.Goals as goal

pub returns : goal.returns
returns c = objects_are_allocated
