use Rattle.f3_rooms.proofs.Reading.{parts_are_found}
use Rattle.f3_rooms.proofs.laws.parts_are_found.Goals as goal

pub returns : goal.returns
returns c = parts_are_found
