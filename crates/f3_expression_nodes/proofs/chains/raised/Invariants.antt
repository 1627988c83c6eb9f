use Rattle.std.proofs.Common.{◌≡◌, map, vec_len}
use Rattle.f3_expression_parts.specs.Parts.{operand_of}
use Rattle.f3_numbers.specs.Surroundings.{surroundings_of}
use Rattle.f3_expression_nodes.specs.Inner.Operands.{raised}
use Rattle.f3_expression_nodes.proofs.chains.raised.Given as goal

abbrev pub invariant-loop-base : goal.invariant-loop-base
invariant-loop-base l =
    raised (surroundings_of l.from) (map operand_of l.bases.items) (operand_of l.found)
    ≡ raised (surroundings_of l.from) (map operand_of l.fn.bases.items) (operand_of l.fn.exponent)

abbrev pub decreases-loop-base : goal.decreases-loop-base
decreases-loop-base l = vec_len l.bases
