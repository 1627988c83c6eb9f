use Rattle.f3_rooms.proofs.Moving.{objects_move}
use Rattle.f3_rooms.proofs.laws.objects_move.Goals as goal

pub returns : goal.returns
returns c = objects_move
