use Rattle.std.proofs.Common.{sym, ◌∙◌}
use Rattle.std.specs.Vec.Iter.{into_iter_items}
use Rattle.f3_numbers.specs.Surroundings.{surroundings_of}
use Rattle.f3_expression_nodes.proofs.Powers.{pushed}
use Rattle.f3_expression_nodes.proofs.chains.chained.Goals as goal

pub loop-operator-preserved-then-is_power : goal.loop-operator-preserved-then-is_power
loop-operator-preserved-then-is_power c =
    pushed (surroundings_of c.args.from) c.loop-operator.bases.items c.push.new.self.items c.loop-operator.last c.in-Some.operand c.in-Some.operator
    (into_iter_items c.loop-operator.operator-iterator) (into_iter_items c.next.new.self) _ (sym c.is_power.ensures ∙ c.if-is_power.true) c.in_ok-push.ensures.items c.in-Some.ensures.steps.0
    c.loop-operator.invariant
