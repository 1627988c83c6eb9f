use Rattle.f3_heights.proofs.Within.{steps_keep_room}
use Rattle.f3_heights.proofs.steps_keep_room.Goals as goal

pub returns : goal.returns
returns c = steps_keep_room
