use Rattle.f3_room_objects.proofs.Moving.{moves_are_moves}
use Rattle.f3_room_objects.proofs.changes.moves_are_moves.Goals as goal

pub returns : goal.returns
returns c = moves_are_moves
