use Rattle.std.proofs.Common.{length, ◌+◌, ◌*◌, ◌≤◌}
use Rattle.f3_tree.specs.Expressions.{expression_view, argument_view}
use Rattle.f3_words.specs.Lists.{is_comma, Separated}
use Rattle.f3_expressions.specs.Grammar.{is_percent}
use Rattle.f3_expressions.specs.Readings.{is_operator, IsOperand, IsPart, IsArgument, EatsWhole}
use Rattle.f3_expressions.specs.Views.{operands_view, elements_view, arguments_view, named_view, parts_view}
use Rattle.f3_expressions.proofs.Runs.{SoFar, Listed}
use Rattle.f3_expressions.proofs.+operation.Given as goal

abbrev pub decreases-expressions::operation : goal.decreases-expressions::operation
decreases-expressions::operation l = 64 * length l.items.now + 2 * l.level + 10

abbrev pub decreases-expressions::operands : goal.decreases-expressions::operands
decreases-expressions::operands l = 64 * length l.items.now + 2 * l.level + 11

abbrev pub decreases-expressions::signed_term : goal.decreases-expressions::signed_term
decreases-expressions::signed_term l = 64 * length l.items.now + 15

abbrev pub decreases-expressions::compared : goal.decreases-expressions::compared
decreases-expressions::compared l = 64 * length l.items.now + 19

abbrev pub decreases-expressions::negated : goal.decreases-expressions::negated
decreases-expressions::negated l = 64 * length l.items.now + 21

abbrev pub decreases-primaries::primary : goal.decreases-primaries::primary
decreases-primaries::primary l = 64 * length l.items.now + 9

abbrev pub decreases-designators::parts : goal.decreases-designators::parts
decreases-designators::parts l = 64 * length l.items.now + 8

abbrev pub decreases-designators::part : goal.decreases-designators::part
decreases-designators::part l = 64 * length l.items.now + 7

abbrev pub decreases-primaries::group : goal.decreases-primaries::group
decreases-primaries::group l = 64 * length l.items.now + 40

abbrev pub decreases-primaries::array : goal.decreases-primaries::array
decreases-primaries::array l = 64 * length l.items.now + 40

abbrev pub decreases-primaries::elements : goal.decreases-primaries::elements
decreases-primaries::elements l = 64 * length l.items.now + 30

abbrev pub decreases-designators::components : goal.decreases-designators::components
decreases-designators::components l = 64 * length l.items.now + 30

abbrev pub decreases-arguments::within : goal.decreases-arguments::within
decreases-arguments::within l = 64 * length l.items.now + 6

abbrev pub decreases-arguments::further : goal.decreases-arguments::further
decreases-arguments::further l = 64 * length l.items.now + 30

abbrev pub decreases-arguments::argument : goal.decreases-arguments::argument
decreases-arguments::argument l = 64 * length l.items.now + 40

abbrev pub decreases-arguments::positional : goal.decreases-arguments::positional
decreases-arguments::positional l = 64 * length l.items.now + 35

abbrev pub decreases-arguments::triplet : goal.decreases-arguments::triplet
decreases-arguments::triplet l = 64 * length l.items.now + 35

abbrev pub decreases-arguments::bound : goal.decreases-arguments::bound
decreases-arguments::bound l = 64 * length l.items.now + 30

abbrev pub decreases-arguments::stride : goal.decreases-arguments::stride
decreases-arguments::stride l = 64 * length l.items.now + 30

abbrev pub invariant-expressions::operands-loop-operator : goal.invariant-expressions::operands-loop-operator
invariant-expressions::operands-loop-operator l = record {
  so_far : SoFar (is_operator l.level) (IsOperand l.level) l.items (operands_view l.found) l.rest;
  shorter : length l.rest ≤ length l.items;
}

abbrev pub decreases-expressions::operands-loop-operator : goal.decreases-expressions::operands-loop-operator
decreases-expressions::operands-loop-operator l = length l.rest

abbrev pub invariant-primaries::elements-loop-tail : goal.invariant-primaries::elements-loop-tail
invariant-primaries::elements-loop-tail l = Listed is_comma (Separated EatsWhole) (expression_view l.fn.first) l.items (elements_view l.found) l.rest

abbrev pub decreases-primaries::elements-loop-tail : goal.decreases-primaries::elements-loop-tail
decreases-primaries::elements-loop-tail l = length l.rest

abbrev pub invariant-designators::components-loop-tail : goal.invariant-designators::components-loop-tail
invariant-designators::components-loop-tail l = Listed is_percent (Separated IsPart) (named_view l.fn.first) l.items (parts_view l.found) l.rest

abbrev pub decreases-designators::components-loop-tail : goal.decreases-designators::components-loop-tail
decreases-designators::components-loop-tail l = length l.rest

abbrev pub invariant-arguments::further-loop-tail : goal.invariant-arguments::further-loop-tail
invariant-arguments::further-loop-tail l = Listed is_comma (Separated IsArgument) (argument_view l.fn.first) l.items (arguments_view l.found) l.rest

abbrev pub decreases-arguments::further-loop-tail : goal.decreases-arguments::further-loop-tail
decreases-arguments::further-loop-tail l = length l.rest
