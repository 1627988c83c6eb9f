use Rattle.f3_room_pins.proofs.Through.{blocks_are_once}
use Rattle.f3_room_pins.proofs.laws.blocks_are_once.Goals as goal

pub returns : goal.returns
returns c = blocks_are_once
