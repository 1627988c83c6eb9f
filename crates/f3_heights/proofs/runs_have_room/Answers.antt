use Rattle.f3_heights.proofs.Running.{runs_have_room}
use Rattle.f3_heights.proofs.runs_have_room.Goals as goal

pub returns : goal.returns
returns c = runs_have_room
