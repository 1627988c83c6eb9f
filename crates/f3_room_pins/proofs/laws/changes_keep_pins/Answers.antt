use Rattle.f3_room_pins.proofs.Changing.{changes_keep_pins, moves_keep_pins}
use Rattle.f3_room_pins.proofs.laws.changes_keep_pins.Goals as goal

pub returns-clause-changes : goal.returns-clause-changes
returns-clause-changes c = changes_keep_pins

pub returns-clause-moves : goal.returns-clause-moves
returns-clause-moves c = moves_keep_pins
