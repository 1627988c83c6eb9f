use Rattle.f3_heights.proofs.Within.{all_have_room}
use Rattle.f3_heights.proofs.within_has_room.Goals as goal

pub returns : goal.returns
returns c = all_have_room
