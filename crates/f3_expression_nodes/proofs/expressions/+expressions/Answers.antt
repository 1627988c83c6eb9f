use Rattle.std.proofs.Common.{map}
use Rattle.std.proofs.lemmas.Result.{IfOk-weaker}
use Rattle.f3_tree.proofs.Views.{view_array, view_chain, view_designator}
use Rattle.f3_elaboration.specs.Views.{expression_view}
use Rattle.f3_expression_parts.specs.Parts.{operand_of, part_of}
use Rattle.f3_numbers.specs.Surroundings.{surroundings_of}
use Rattle.f3_expression_nodes.specs.Inner.Lists.{further_of}
use Rattle.f3_expression_nodes.proofs.Trees.{node_view, array_same, chain_same, designator_same}
use Rattle.f3_expression_nodes.proofs.expressions.+expressions.Goals as goal

pub expression-returns-in_ok-list-in-Designator : goal.expression-returns-in_ok-list-in-Designator
expression-returns-in_ok-list-in-Designator t c =
    IfOk-weaker c.designated.result _ _
    (λ x made. node_view (surroundings_of c.args.from) _ _ _ _ c.in-Designator.is (view_designator c.in-Designator.list)
    (designator_same (surroundings_of c.args.from) c.in-Designator.list.items c.deref.result.now c.deref-in-Designator.result.now c.in_ok-of-in-Designator.of
    (map part_of c.in_ok-list-in-Designator.list.items) (expression_view x) made c.in_ok-of-in-Designator.ensures c.in_ok-list-in-Designator.ensures
    c.deref.ensures.value c.deref-in-Designator.ensures.value))
    c.designated.ensures

pub expression-returns-in_ok-list-in-Array : goal.expression-returns-in_ok-list-in-Array
expression-returns-in_ok-list-in-Array t c =
    node_view (surroundings_of c.args.from) _ _ _ _ c.in-Array.is (view_array c.in-Array.field-0 c.in-Array.list)
    (array_same (surroundings_of c.args.from) c.in_ok-list-in-Array.list c.in-Array.list.items c.deref-in-Array.result.now c.in_ok-list-in-Array.ensures c.deref-in-Array.ensures.value)

pub expression-returns-in_ok-found-in-Chain : goal.expression-returns-in_ok-found-in-Chain
expression-returns-in_ok-found-in-Chain t c =
    node_view (surroundings_of c.args.from) _ _ _ _ c.in-Chain.is (view_chain c.in-Chain.first c.in-Chain.others)
    (chain_same (surroundings_of c.args.from) c.in-Chain.first.value c.deref-in-Chain-2.result.now c.deref-in-Chain.result.now c.in-Chain.others.items c.deref-in-Chain-3.result.now
    (expression_view c.in_ok-value-in-Chain.value) c.in_ok-kind-in-Chain.kind (map further_of c.in_ok-others-in-Chain.others.items) (operand_of c.in_ok-found-in-Chain.found)
    c.in_ok-found-in-Chain.ensures c.in_ok-value-in-Chain.ensures c.in_ok-kind-in-Chain.ensures c.in_ok-others-in-Chain.ensures
    c.deref-in-Chain-2.ensures c.deref-in-Chain.ensures c.deref-in-Chain-3.ensures.value)
