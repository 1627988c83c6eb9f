use Rattle.f3_text.proofs.InOrder.{stand_in_order}
use Rattle.f3_text.proofs.laws.stand_in_order.Goals as goal

pub returns : goal.returns
returns c = stand_in_order
