use Rattle.std.proofs.Common.{◌≡◌, map}
use Rattle.std.specs.Vec.Iter.{into_iter_items}
use Rattle.f3_expression_parts.specs.Parts.{operand_of}
use Rattle.f3_numbers.specs.Surroundings.{surroundings_of}
use Rattle.f3_expression_nodes.specs.Inner.Lists.{further_of}
use Rattle.f3_expression_nodes.specs.Inner.Operands.{chained, raised}
use Rattle.f3_expression_nodes.proofs.chains.chained.Given as goal

abbrev pub invariant-loop-operator : goal.invariant-loop-operator
invariant-loop-operator l =
    raised (surroundings_of l.from) (map operand_of l.bases.items) (chained (surroundings_of l.from) (operand_of l.last) (map further_of (into_iter_items l.operator-iterator)))
    ≡ chained (surroundings_of l.from) (operand_of l.fn.first) (map further_of l.fn.others.items)
