use Rattle.f3_room_objects.proofs.Clearing.{freed_parts_are_cleared}
use Rattle.f3_room_objects.proofs.changes.freed_parts_are_cleared.Goals as goal

pub returns : goal.returns
returns c = freed_parts_are_cleared
