use Rattle.std.proofs.Common.{◌≡◌, ◌++◌, ◌+◌, ◌*◌, drop, map}
use Rattle.f3_tree.specs.Expressions as tree
use Rattle.f3_elaboration.specs.Expressions as elaborated
use Rattle.f3_elaboration.specs.Views.{argument_view}
use Rattle.f3_expression_parts.specs.Parts.{given_of, part_of}
use Rattle.f3_numbers.specs.Surroundings.{surroundings_of}
use Rattle.f3_expression_nodes.specs.Inner.Lists.{further, further_of, item}
use Rattle.f3_expression_nodes.proofs.expressions.+expressions.Given as goal

abbrev pub decreases-expression : goal.decreases-expression
decreases-expression l = 4 * goal.size-expression l + 0

abbrev pub decreases-operands : goal.decreases-operands
decreases-operands l = 4 * goal.size-operands l + 1

abbrev pub decreases-items : goal.decreases-items
decreases-items l = 4 * goal.size-items l + 1

abbrev pub decreases-parts : goal.decreases-parts
decreases-parts l = 4 * goal.size-parts l + 3

abbrev pub decreases-behind : goal.decreases-behind
decreases-behind l = 4 * goal.size-behind l + 2

abbrev pub decreases-given : goal.decreases-given
decreases-given l = 4 * goal.size-given l + 1

abbrev pub decreases-given_by : goal.decreases-given_by
decreases-given_by l = 4 * goal.size-given_by l + 0

abbrev pub decreases-perhaps : goal.decreases-perhaps
decreases-perhaps l = 4 * goal.size-perhaps l + 1

abbrev pub invariant-operands-loop-operator : goal.invariant-operands-loop-operator
invariant-operands-loop-operator l =
    map further_of l.found.items ++ map (further (surroundings_of l.from)) (drop l.operator-index l.others)
    ≡ map (further (surroundings_of l.from)) l.others

abbrev pub invariant-items-loop-e : goal.invariant-items-loop-e
invariant-items-loop-e l =
    map argument_view l.found.items ++ map (item (surroundings_of l.from)) (drop l.e-index l.list)
    ≡ map (item (surroundings_of l.from)) l.list

abbrev pub invariant-parts-loop-part : goal.invariant-parts-loop-part
invariant-parts-loop-part l =
    map part_of l.found.items ++ elaborated.parts (surroundings_of l.from) (tree.parts_list (map tree.part_view (drop l.part-index l.list)))
    ≡ elaborated.parts (surroundings_of l.from) (tree.parts_list (map tree.part_view l.list))

abbrev pub invariant-given-loop-one : goal.invariant-given-loop-one
invariant-given-loop-one l =
    map given_of l.found.items ++ elaborated.given (surroundings_of l.from) (tree.arguments_of (map tree.argument_view (drop l.one-index l.list)))
    ≡ elaborated.given (surroundings_of l.from) (tree.arguments_of (map tree.argument_view l.list))
