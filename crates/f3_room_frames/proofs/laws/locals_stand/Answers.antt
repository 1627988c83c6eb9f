use Rattle.f3_room_frames.proofs.Levels.{locals_stand}
use Rattle.f3_room_frames.proofs.laws.locals_stand.Goals as goal

pub returns : goal.returns
returns c = locals_stand
