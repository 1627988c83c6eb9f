use Rattle.f3_rooms.proofs.Scalars.{scalars_are_put}
use Rattle.f3_rooms.proofs.laws.scalars_are_put.Goals as goal

pub returns : goal.returns
returns c = scalars_are_put
