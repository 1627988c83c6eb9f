use Rattle.f3_requests.proofs.Tops.{top_seen}
use Rattle.f3_requests.proofs.given.top.Goals as goal

pub returns : goal.returns
returns c = λ p. top_seen p c.args.stack.now c.args.count c.saturating_sub.result c.saturating_sub.ensures
