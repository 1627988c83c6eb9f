use Rattle.f3_desc.proofs.Orders.{ordered}
use Rattle.f3_desc.proofs.laws.places_are_ordered.Goals as goal

pub returns : goal.returns
returns c = ordered
