use Rattle.f3_numbers.specs.Surroundings.{surroundings_of}
use Rattle.f3_expression_nodes.proofs.Powers.{popped}
use Rattle.f3_expression_nodes.proofs.chains.raised.Goals as goal

pub loop-base-preserved : goal.loop-base-preserved
loop-base-preserved c =
    popped (surroundings_of c.args.from) c.loop-base.bases.items c.pop.new.self.items c.in-Some.base c.loop-base.found c.in_ok-found.found _
    c.in-Some.ensures.items c.in_ok-found.ensures c.loop-base.invariant
