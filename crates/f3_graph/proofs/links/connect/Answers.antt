use Rattle.f3_graph.proofs.Naming.{connect_steps}
use Rattle.f3_graph.proofs.links.connect.Goals as goal

pub returns-in_ok-push-clause-steps : goal.returns-in_ok-push-clause-steps
returns-in_ok-push-clause-steps c =
    connect_steps c.args.graph.now.items c.args.link.now.home c.index_mut.result.now c.push.new.self c.in-Some.target c.args.link.now.target c.requires c.index_mut.ensures.value c.in_ok-push.ensures.items c.in-Some.is
