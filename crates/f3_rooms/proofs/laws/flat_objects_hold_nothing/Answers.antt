use Rattle.f3_rooms.proofs.Flat.{flat_objects_hold_nothing}
use Rattle.f3_rooms.proofs.laws.flat_objects_hold_nothing.Goals as goal

pub returns : goal.returns
returns c = flat_objects_hold_nothing
