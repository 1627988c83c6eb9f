use Rattle.f3_typed_parts.specs.Known.{context_of}
use Rattle.f3_action_nodes.proofs.Unbounding.{said_without}
use Rattle.f3_action_nodes.proofs.requests.unbounded_parts.Goals as goal

pub returns-in_ok-push-in-Some : goal.returns-in_ok-push-in-Some
returns-in_ok-push-in-Some c =
    said_without (context_of c.args.known.now c.args.at) c.args.list.now c.in-Some.before.now c.in-Some.last.now c.in_ok-found-in-Some.found.items
    c.push.new.self.items c.alone.result c.in-Some.ensures.cases.0 c.in_ok-found-in-Some.ensures c.in_ok-push-in-Some.ensures.items c.alone.ensures
