use Rattle.f3_order_laws.proofs.Resolved.{resolved}
use Rattle.f3_order_laws.proofs.laws.resolved_is_visible.Goals as goal

pub returns : goal.returns
returns c = resolved
