use Rattle.f3_rooms.proofs.Onward.{parts_have_parts}
use Rattle.f3_rooms.proofs.ways.parts_have_parts.Goals as goal

pub returns : goal.returns
returns c = parts_have_parts
