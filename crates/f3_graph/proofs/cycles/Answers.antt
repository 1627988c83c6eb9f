use Rattle.f3_rules.proofs.Firsts.{least_none}
use Rattle.f3_graph.proofs.Cycling.{round}
use Rattle.f3_graph.proofs.cycles.Goals as goal

pub returns-then-has_order : goal.returns-then-has_order
returns-then-has_order c = least_none (λ b h. let r = round c.args.graph.now c.args.links.now c.requires.steps.steps b h in c.requires.order c.if-has_order.true r.0 r.1)
