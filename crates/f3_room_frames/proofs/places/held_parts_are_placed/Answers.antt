use Rattle.f3_room_frames.proofs.Placed.{held_parts_are_placed}
use Rattle.f3_room_frames.proofs.places.held_parts_are_placed.Goals as goal

pub returns : goal.returns
returns c = held_parts_are_placed
