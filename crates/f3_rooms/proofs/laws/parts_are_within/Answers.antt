use Rattle.f3_rooms.proofs.Within.{parts_are_within}
use Rattle.f3_rooms.proofs.laws.parts_are_within.Goals as goal

pub returns : goal.returns
returns c = parts_are_within
