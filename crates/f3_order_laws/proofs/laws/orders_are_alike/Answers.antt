use Rattle.f3_order_laws.proofs.Programs.{orders}
use Rattle.f3_order_laws.proofs.laws.orders_are_alike.Goals as goal

pub returns : goal.returns
returns c = orders
