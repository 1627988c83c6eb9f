use Rattle.f3_room_objects.proofs.Blanking.{cleared_parts_are_blank}
use Rattle.f3_room_objects.proofs.changes.cleared_parts_are_blank.Goals as goal

pub returns : goal.returns
returns c = cleared_parts_are_blank
