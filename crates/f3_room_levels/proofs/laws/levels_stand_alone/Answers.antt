use Rattle.f3_room_levels.proofs.Ended.{levels_stand_alone}
use Rattle.f3_room_levels.proofs.laws.levels_stand_alone.Goals as goal

pub returns : goal.returns
returns c = levels_stand_alone
