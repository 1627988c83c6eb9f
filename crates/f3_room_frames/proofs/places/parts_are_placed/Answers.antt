use Rattle.f3_room_frames.proofs.Placed.{parts_are_placed, placed_parts, holders_are_placed}
use Rattle.f3_room_frames.proofs.places.parts_are_placed.Goals as goal

pub returns-clause-ways : goal.returns-clause-ways
returns-clause-ways c = parts_are_placed

pub returns-clause-places : goal.returns-clause-places
returns-clause-places c = placed_parts

pub returns-clause-holders : goal.returns-clause-holders
returns-clause-holders c = holders_are_placed
