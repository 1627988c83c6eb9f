use Rattle.f3_room_arrays.proofs.Told.{arrays_are_told}
use Rattle.f3_room_arrays.proofs.laws.arrays_are_told.Goals as goal

pub returns : goal.returns
returns c = arrays_are_told
