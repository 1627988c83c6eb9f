use Rattle.f3_room_frames.proofs.Changing.{objects_move}
use Rattle.f3_room_frames.proofs.changes.objects_move.Goals as goal

pub returns : goal.returns
returns c = objects_move
