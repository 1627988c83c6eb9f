use Rattle.f3_rooms.proofs.Stores.{parts_are_replaced}
use Rattle.f3_rooms.proofs.laws.parts_are_replaced.Goals as goal

pub returns : goal.returns
returns c = parts_are_replaced
