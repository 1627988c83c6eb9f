use Rattle.f3_room_arrays.proofs.Components.{components_are_told}
use Rattle.f3_room_arrays.proofs.laws.components_are_told.Goals as goal

pub returns : goal.returns
returns c = components_are_told
