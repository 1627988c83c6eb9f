use Rattle.std.proofs.Common.{◌≡◌, ◌<◌, ◌-◌, true, List, [], map, None, inl, inr, length, arith, sym, ap, subst, ◌∙◌}
use Rattle.std.proofs.lemmas.Bool.Decides.{nat_tests}
use Rattle.std.proofs.lemmas.List.{nil_from_length, map_push, length-map}
use Rattle.std.proofs.lemmas.Result.{err_from_is_err_and}
use Rattle.f3_tree.specs.Expressions.{expression_view, argument_view}
use Rattle.f3_tree.proofs.Views.{view_truth, view_text, view_group, view_array, view_signed, view_not, view_comparison, view_chain, view_designator, view_value, view_triplet}
use Rattle.f3_words.specs.declared.item.Item.{Item}
use Rattle.f3_words.specs.Lists.{is_comma, EatsRun, Separated}
use Rattle.f3_words.specs.Words.{is_name}
use Rattle.f3_words.specs.Reads.{IsRead, Fails}
use Rattle.f3_expressions.specs.Grammar.{is_integer, is_percent}
use Rattle.f3_expressions.specs.Readings.{EatsUpTo, is_operator, IsOperand, IsPart, IsArgument, IsPositional, EatsWhole}
use Rattle.f3_expressions.specs.Views.{operands_view, named_view, bound_view}
use Rattle.f3_expressions.proofs.Runs.{one_more, is_over, element_fails, refused, listed_more, listed_over, listed_fails}
use Rattle.f3_expressions.proofs.Chains.{Plain, level_reads, level_fails, level_rest_fails, joined_some, is_of_level, operand_reads, operand_fails}
use Rattle.f3_expressions.proofs.Prefixes.{signed_reads, signed_fails, unsigned_result, negation_reads, negation_fails, plain_result, sum_reads, sum_fails, comparison_reads, comparison_fails, second_relation}
use Rattle.f3_expressions.proofs.Operands.{nothing_fails, other_fails, integer_reads, truth_reads, text_reads, group_reads, group_fails, group_unclosed, array_reads, array_fails, elements_fail, array_unclosed, designator_reads, designator_fails, parts_result, first_part_fails, other_rank, part_bare, part_within, part_within_fails, starts_no_open, starts_no_percent}
use Rattle.f3_expressions.proofs.Lists.{bound_absent, starts_no_comma, triplet_reads, colon_first, colon_behind, value_reads, value_fails, no_argument, unnamed_reads, no_parenthesis, none_read, arguments_read, argument_fails, further_fails, arguments_unclosed}
use Rattle.f3_expressions.proofs.+operation.Goals as goal

pub arguments::argument-returns-in-None-clause-read : goal.arguments::argument-returns-in-None-clause-read
arguments::argument-returns-in-None-clause-read t c = unnamed_reads c.args.items.now c.in-None.ensures c.positional.result c.positional.ensures.read

pub arguments::within-returns-in_err-first-in-None-behind-clause-read : goal.arguments::within-returns-in_err-first-in-None-behind-clause-read
arguments::within-returns-in_err-first-in-None-behind-clause-read t c =
    let p = err_from_is_err_and c.from_residual.result c.from_residual.ensures.1 in
    let b = c.in-Some.ensures in
    rw (p.1, p.2) (refused _ _ _ (argument_fails c.args.items.now b.0 c.in-Some.inner.now b.1 c.in-None-behind.ensures) c.in_err-first-in-None-behind.ensures.read)

pub arguments::within-returns-in_err-found-in-None-behind-clause-read : goal.arguments::within-returns-in_err-found-in-None-behind-clause-read
arguments::within-returns-in_err-found-in-None-behind-clause-read t c =
    let p = err_from_is_err_and c.from_residual-in_err-found-in-None-behind.result c.from_residual-in_err-found-in-None-behind.ensures.1 in
    let b = c.in-Some.ensures in
    rw (p.1, p.2) (refused _ _ _ (further_fails c.args.items.now b.0 c.in-Some.inner.now _ _ b.1 c.in-None-behind.ensures c.in_ok-first-in-None-behind.ensures.read) c.in_err-found-in-None-behind.ensures.read)

pub arguments::within-returns-in-None-clause-read : goal.arguments::within-returns-in-None-clause-read
arguments::within-returns-in-None-clause-read t c = no_parenthesis c.args.items.now c.in-None.ensures

pub arguments::within-returns-in-Some-behind-clause-read : goal.arguments::within-returns-in-Some-behind-clause-read
arguments::within-returns-in-Some-behind-clause-read t c =
    let b = c.in-Some.ensures in
    let d = c.in-Some-behind.ensures in
    rw c.new.ensures.items (none_read c.args.items.now b.0 c.in-Some.inner.now d.0 c.in-Some-behind.tail.now b.1 b.2 d.1 d.2)

pub arguments::within-returns-in-Some-behind-2-clause-read : goal.arguments::within-returns-in-Some-behind-2-clause-read
arguments::within-returns-in-Some-behind-2-clause-read t c =
    let b = c.in-Some.ensures in
    let d = c.in-Some-behind-2.ensures in
    arguments_read c.args.items.now b.0 c.in-Some.inner.now _ _ _ _ d.0 c.in-Some-behind-2.tail.now b.1 b.2 c.in-None-behind.ensures c.in_ok-first-in-None-behind.ensures.read c.in_ok-found-in-None-behind.ensures.read d.1 d.2

pub arguments::within-returns-in-None-behind-2-clause-read : goal.arguments::within-returns-in-None-behind-2-clause-read
arguments::within-returns-in-None-behind-2-clause-read t c =
    let b = c.in-Some.ensures in
    arguments_unclosed c.args.items.now b.0 c.in-Some.inner.now _ _ _ _ b.1 c.in-None-behind.ensures c.in_ok-first-in-None-behind.ensures.read c.in_ok-found-in-None-behind.ensures.read c.in-None-behind-2.ensures

pub primaries::array-returns-in_err-element-clause-read : goal.primaries::array-returns-in_err-element-clause-read
primaries::array-returns-in_err-element-clause-read t c =
    let p = err_from_is_err_and c.from_residual.result c.from_residual.ensures.1 in
    rw (p.1, p.2) (refused _ _ _ (array_fails c.args.first c.args.items.now c.requires) c.in_err-element.ensures.read)

pub primaries::array-returns-in_err-elements-clause-read : goal.primaries::array-returns-in_err-elements-clause-read
primaries::array-returns-in_err-elements-clause-read t c =
    let p = err_from_is_err_and c.from_residual-in_err-elements.result c.from_residual-in_err-elements.ensures.1 in
    rw (p.1, p.2) (refused _ _ _ (elements_fail c.args.first c.args.items.now _ _ c.requires c.in_ok-element.ensures.read) c.in_err-elements.ensures.read)

pub primaries::array-returns-in-Some-clause-read : goal.primaries::array-returns-in-Some-clause-read
primaries::array-returns-in-Some-clause-read t c =
    let b = c.in-Some.ensures in
    rw (view_array c.args.first.place c.in_ok-elements.elements) (array_reads c.args.first c.args.items.now _ _ _ _ b.0 _ c.requires c.in_ok-element.ensures.read c.in_ok-elements.ensures.read b.1 b.2)

pub primaries::array-returns-in-None-clause-read : goal.primaries::array-returns-in-None-clause-read
primaries::array-returns-in-None-clause-read t c = array_unclosed c.args.first c.args.items.now _ _ _ _ c.requires c.in_ok-element.ensures.read c.in_ok-elements.ensures.read c.in-None.ensures

pub arguments::bound-returns-then-bound_ends-clause-read : goal.arguments::bound-returns-then-bound_ends-clause-read
arguments::bound-returns-then-bound_ends-clause-read t c = bound_absent c.args.items.now (sym c.bound_ends.ensures ∙ c.if-bound_ends.true)

pub expressions::compared-returns-in_err-left-clause-read : goal.expressions::compared-returns-in_err-left-clause-read
expressions::compared-returns-in_err-left-clause-read t c =
    let p = err_from_is_err_and c.from_residual.result c.from_residual.ensures.1 in
    rw (p.1, p.2) (refused _ _ _ (sum_fails c.args.items.now) c.in_err-left.ensures.read)

pub expressions::compared-returns-in_err-right-in-Some-clause-read : goal.expressions::compared-returns-in_err-right-in-Some-clause-read
expressions::compared-returns-in_err-right-in-Some-clause-read t c =
    let p = err_from_is_err_and c.from_residual-in_err-right-in-Some.result c.from_residual-in_err-right-in-Some.ensures.1 in
    let b = c.in-Some.ensures in
    rw (p.1, p.2) (refused _ _ _ (comparison_fails c.args.items.now _ _ b.0 c.in-Some.tail.now c.in-Some.relation c.in_ok-left.ensures.read b.1 b.2) c.in_err-right-in-Some.ensures.read)

pub expressions::compared-returns-in-Some-relation_front-clause-read : goal.expressions::compared-returns-in-Some-relation_front-clause-read
expressions::compared-returns-in-Some-relation_front-clause-read t c =
    let b = c.in-Some.ensures in
    let d = c.in-Some-relation_front.ensures in
    second_relation c.args.items.now _ _ b.0 c.in-Some.tail.now c.in-Some.relation _ _ d.0 _ _ c.in_ok-left.ensures.read b.1 b.2 c.in_ok-right-in-Some.ensures.read d.1 d.2

pub expressions::compared-returns-in_ok-new-in-None-relation_front-2-clause-read : goal.expressions::compared-returns-in_ok-new-in-None-relation_front-2-clause-read
expressions::compared-returns-in_ok-new-in-None-relation_front-2-clause-read t c =
    let b = c.in-Some.ensures in
    let read = comparison_reads c.args.items.now _ _ b.0 c.in-Some.tail.now c.in-Some.relation _ _ c.in_ok-left.ensures.read b.1 b.2 c.in_ok-right-in-Some.ensures.read c.in-None-relation_front.ensures in
    rw (view_comparison c.in_ok-new-in-None-relation_front.field-0 c.in-Some.relation c.in_ok-new-in-None-relation_front-2.field-0, c.in_ok-new-in-None-relation_front.ensures.ok, c.in_ok-new-in-None-relation_front-2.ensures.ok) read

pub expressions::compared-returns-in-None-clause-read : goal.expressions::compared-returns-in-None-clause-read
expressions::compared-returns-in-None-clause-read t c = sum_reads c.args.items.now _ _ c.in-None.ensures c.in_ok-left.ensures.read

pub designators::components-returns-in_err-component-clause-read : goal.designators::components-returns-in_err-component-clause-read
designators::components-returns-in_err-component-clause-read t c =
    let p = err_from_is_err_and c.from_residual-in_err-component.result c.from_residual-in_err-component.ensures.1 in
    let b = c.in-Some.ensures in
    rw (p.1, p.2) (refused _ _ _ (listed_fails is_percent (Separated IsPart) c.args.items.now c.loop-tail.rest.now c.in-Some.tail.now b.0 _ _ c.loop-tail.invariant b.1 (ap is_percent b.2)) c.in_err-component.ensures.read)

pub designators::components-loop-tail-preserved : goal.designators::components-loop-tail-preserved
designators::components-loop-tail-preserved t c =
    let b = c.in-Some.ensures in
    let more = listed_more is_percent (Separated IsPart) c.args.items.now c.loop-tail.rest.now c.in-Some.tail.now c.in_ok-component.after.now b.0 (named_view c.args.first) _ (named_view c.in_ok-component.component) c.loop-tail.invariant b.1 (ap is_percent b.2) c.in_ok-component.ensures.read (omega (arith, c.in_ok-component.ensures.shorter)) in
    rw (c.in_ok-push-2.ensures.items, map_push) more

pub designators::components-returns-clause-read : goal.designators::components-returns-clause-read
designators::components-returns-clause-read t c = rw c.shrink_to_fit.ensures.items (listed_over is_percent (Separated IsPart) c.args.items.now c.loop-tail.rest.now _ _ c.loop-tail.invariant (starts_no_percent c.loop-tail.rest.now c.in_default.ensures))

pub designators::parts-returns-in_err-first-clause-read : goal.designators::parts-returns-in_err-first-clause-read
designators::parts-returns-in_err-first-clause-read t c =
    let p = err_from_is_err_and c.from_residual.result c.from_residual.ensures.1 in
    rw (p.1, p.2) (refused _ _ _ (first_part_fails c.args.items.now) c.in_err-first.ensures.read)

pub designators::parts-returns-clause-read : goal.designators::parts-returns-clause-read
designators::parts-returns-clause-read t c = parts_result c.args.items.now _ _ c.in_ok-first.ensures.read c.components.result c.components.ensures.read

pub primaries::elements-returns-in_err-element-clause-read : goal.primaries::elements-returns-in_err-element-clause-read
primaries::elements-returns-in_err-element-clause-read t c =
    let p = err_from_is_err_and c.from_residual-in_err-element.result c.from_residual-in_err-element.ensures.1 in
    let b = c.in-Some.ensures in
    rw (p.1, p.2) (refused _ _ _ (listed_fails is_comma (Separated EatsWhole) c.args.items.now c.loop-tail.rest.now c.in-Some.tail.now b.0 _ _ c.loop-tail.invariant b.1 (ap is_comma b.2)) c.in_err-element.ensures.read)

pub primaries::elements-loop-tail-preserved : goal.primaries::elements-loop-tail-preserved
primaries::elements-loop-tail-preserved t c =
    let b = c.in-Some.ensures in
    let more = listed_more is_comma (Separated EatsWhole) c.args.items.now c.loop-tail.rest.now c.in-Some.tail.now c.in_ok-element.after.now b.0 (expression_view c.args.first) _ (expression_view c.in_ok-element.element) c.loop-tail.invariant b.1 (ap is_comma b.2) c.in_ok-element.ensures.read (omega (arith, c.in_ok-element.ensures.shorter)) in
    rw (c.in_ok-push-2.ensures.items, map_push) more

pub primaries::elements-returns-clause-read : goal.primaries::elements-returns-clause-read
primaries::elements-returns-clause-read t c = rw c.shrink_to_fit.ensures.items (listed_over is_comma (Separated EatsWhole) c.args.items.now c.loop-tail.rest.now _ _ c.loop-tail.invariant (starts_no_comma c.loop-tail.rest.now c.in_default.ensures))

pub arguments::further-returns-in_err-argument-clause-read : goal.arguments::further-returns-in_err-argument-clause-read
arguments::further-returns-in_err-argument-clause-read t c =
    let p = err_from_is_err_and c.from_residual-in_err-argument.result c.from_residual-in_err-argument.ensures.1 in
    let b = c.in-Some.ensures in
    rw (p.1, p.2) (refused _ _ _ (listed_fails is_comma (Separated IsArgument) c.args.items.now c.loop-tail.rest.now c.in-Some.tail.now b.0 _ _ c.loop-tail.invariant b.1 (ap is_comma b.2)) c.in_err-argument.ensures.read)

pub arguments::further-loop-tail-preserved : goal.arguments::further-loop-tail-preserved
arguments::further-loop-tail-preserved t c =
    let b = c.in-Some.ensures in
    let more = listed_more is_comma (Separated IsArgument) c.args.items.now c.loop-tail.rest.now c.in-Some.tail.now c.in_ok-argument.after.now b.0 (argument_view c.args.first) _ (argument_view c.in_ok-argument.argument) c.loop-tail.invariant b.1 (ap is_comma b.2) c.in_ok-argument.ensures.read (omega (arith, c.in_ok-argument.ensures.shorter)) in
    rw (c.in_ok-push-2.ensures.items, map_push) more

pub arguments::further-returns-clause-read : goal.arguments::further-returns-clause-read
arguments::further-returns-clause-read t c = rw c.shrink_to_fit.ensures.items (listed_over is_comma (Separated IsArgument) c.args.items.now c.loop-tail.rest.now _ _ c.loop-tail.invariant (starts_no_comma c.loop-tail.rest.now c.in_default.ensures))

pub primaries::group-returns-in_err-inner-clause-read : goal.primaries::group-returns-in_err-inner-clause-read
primaries::group-returns-in_err-inner-clause-read t c =
    let p = err_from_is_err_and c.from_residual.result c.from_residual.ensures.1 in
    rw (p.1, p.2) (refused _ _ _ (group_fails c.args.first c.args.items.now c.requires) c.in_err-inner.ensures.read)

pub primaries::group-returns-in_ok-new-in-Some-clause-read : goal.primaries::group-returns-in_ok-new-in-Some-clause-read
primaries::group-returns-in_ok-new-in-Some-clause-read t c =
    let b = c.in-Some.ensures in
    rw (view_group c.args.first.place c.in_ok-new-in-Some.field-0, c.in_ok-new-in-Some.ensures.ok) (group_reads c.args.first c.args.items.now _ _ b.0 _ c.requires c.in_ok-inner.ensures.read b.1 b.2)

pub primaries::group-returns-in-None-clause-read : goal.primaries::group-returns-in-None-clause-read
primaries::group-returns-in-None-clause-read t c = group_unclosed c.args.first c.args.items.now _ _ c.requires c.in_ok-inner.ensures.read c.in-None.ensures

pub expressions::negated-returns-in_err-operand-in-Some-clause-read : goal.expressions::negated-returns-in_err-operand-in-Some-clause-read
expressions::negated-returns-in_err-operand-in-Some-clause-read t c =
    let p = err_from_is_err_and c.from_residual.result c.from_residual.ensures.1 in
    let b = c.in-Some.ensures in
    rw (p.1, p.2) (refused _ _ _ (negation_fails c.args.items.now c.in-Some.item c.in-Some.tail.now b.0 b.1) c.in_err-operand-in-Some.ensures.read)

pub expressions::negated-returns-in_ok-new-in-Some-clause-read : goal.expressions::negated-returns-in_ok-new-in-Some-clause-read
expressions::negated-returns-in_ok-new-in-Some-clause-read t c =
    let b = c.in-Some.ensures in
    rw (view_not c.in-Some.item.place c.in_ok-new-in-Some.field-0, c.in_ok-new-in-Some.ensures.ok) (negation_reads c.args.items.now c.in-Some.item c.in-Some.tail.now _ _ b.0 b.1 c.in_ok-operand-in-Some.ensures.read)

pub expressions::negated-returns-in-None-clause-read : goal.expressions::negated-returns-in-None-clause-read
expressions::negated-returns-in-None-clause-read t c = plain_result c.args.items.now c.in-None.ensures c.operation-in-None.result c.operation-in-None.ensures.read

pub expressions::operands-returns-in_err-operand-clause-read : goal.expressions::operands-returns-in_err-operand-clause-read
expressions::operands-returns-in_err-operand-clause-read t c =
    let p = err_from_is_err_and c.from_residual.result c.from_residual.ensures.1 in
    let b = c.in-Some.ensures in
    let l = c.args.level in
    rw (p.1, p.2) (refused _ _ _ (λ a. element_fails (is_operator l) (IsOperand l) c.args.items.now c.loop-operator.rest.now c.in-Some.tail.now b.0 _ c.loop-operator.invariant.so_far b.1 (ap (is_operator l) b.2 ∙ is_of_level l c.in-Some.operator b.3) (operand_fails l _ b.0 c.in-Some.tail.now c.unsigned_level.ensures a)) c.in_err-operand.ensures.read)

pub expressions::operands-loop-operator-preserved : goal.expressions::operands-loop-operator-preserved
expressions::operands-loop-operator-preserved t c =
    let b = c.in-Some.ensures in
    let l = c.args.level in
    let read = operand_reads l _ b.0 c.in-Some.tail.now c.in-Some.operator (expression_view c.in_ok-operand.operand) c.in_ok-operand.after.now c.unsigned_level.ensures b.2 c.in_ok-operand.ensures.read in
    let more = one_more (is_operator l) (IsOperand l) c.args.items.now c.loop-operator.rest.now c.in-Some.tail.now c.in_ok-operand.after.now b.0 _ (c.in-Some.operator, expression_view c.in_ok-operand.operand) c.loop-operator.invariant.so_far b.1 (ap (is_operator l) b.2 ∙ is_of_level l c.in-Some.operator b.3) read in
    record {
      so_far = rw (c.in_ok-push.ensures.items, map_push) more;
      shorter = let longer = ap length b.1 in omega (arith, c.in_ok-operand.ensures.shorter, c.loop-operator.invariant.shorter, longer);
    }

pub expressions::operands-returns-clause-read : goal.expressions::operands-returns-clause-read
expressions::operands-returns-clause-read t c = rw c.shrink_to_fit.ensures.items (is_over (is_operator c.args.level) (IsOperand c.args.level) c.args.items.now c.loop-operator.rest.now _ c.loop-operator.invariant.so_far c.in_default.ensures)

pub expressions::operation-returns-in_err-first-clause-read : goal.expressions::operation-returns-in_err-first-clause-read
expressions::operation-returns-in_err-first-clause-read t c =
    let p = err_from_is_err_and c.from_residual.result c.from_residual.ensures.1 in
    let plain : Plain (c.args.level - 1) = record { sign = λ e. omega (arith, e); relation = λ e. omega (arith, e); negation = λ e. omega (arith, e) } in
    rw (p.1, p.2) (refused _ _ _ (level_fails c.args.level (c.args.level - 1) c.args.items.now (omega arith) plain) c.in_err-first.ensures.read)

pub expressions::operation-returns-in_err-others-clause-read : goal.expressions::operation-returns-in_err-others-clause-read
expressions::operation-returns-in_err-others-clause-read t c =
    let p = err_from_is_err_and c.from_residual-in_err-others.result c.from_residual-in_err-others.ensures.1 in
    let plain : Plain (c.args.level - 1) = record { sign = λ e. omega (arith, e); relation = λ e. omega (arith, e); negation = λ e. omega (arith, e) } in
    rw (p.1, p.2) (refused _ _ _ (level_rest_fails c.args.level (c.args.level - 1) c.args.items.now c.in_ok-first.rest.now (expression_view c.in_ok-first.first) (omega arith) plain c.in_ok-first.ensures.read) c.in_err-others.ensures.read)

pub expressions::operation-returns-then-is_empty-clause-read : goal.expressions::operation-returns-then-is_empty-clause-read
expressions::operation-returns-then-is_empty-clause-read t c =
    let plain : Plain (c.args.level - 1) = record { sign = λ e. omega (arith, e); relation = λ e. omega (arith, e); negation = λ e. omega (arith, e) } in
    let none : c.in_ok-others.others.items ≡ [] = nil_from_length _ (grind (arith, nat_tests)) in
    let rests = EatsRun (is_operator (c.args.level - 1)) (IsOperand (c.args.level - 1)) in
    let rest = subst (λ os. IsRead rests c.in_ok-first.rest.now (map (λ x. (x.0, expression_view x.1)) os) c.in_ok-others.rest.now) none c.in_ok-others.ensures.read in
    level_reads c.args.level (c.args.level - 1) _ _ _ _ [] (omega arith) plain c.in_ok-first.ensures.read rest

pub expressions::operation-returns-clause-read : goal.expressions::operation-returns-clause-read
expressions::operation-returns-clause-read t c =
    let plain : Plain (c.args.level - 1) = record { sign = λ e. omega (arith, e); relation = λ e. omega (arith, e); negation = λ e. omega (arith, e) } in
    let read = level_reads c.args.level (c.args.level - 1) _ _ _ _ _ (omega arith) plain c.in_ok-first.ensures.read c.in_ok-others.ensures.read in
    let some : 0 < length (operands_view c.in_ok-others.others) = simp length-map (grind (arith, nat_tests)) in
    let one = joined_some (expression_view c.in_ok-first.first) (operands_view c.in_ok-others.others) some in
    rw (view_chain c.in_ok-new.field-0 c.in_ok-others.others, c.in_ok-new.ensures.ok) (subst (λ x. IsRead (EatsUpTo c.args.level) c.args.items.now x c.in_ok-others.rest.now) one read)

pub designators::part-returns-in_err-arguments-in-Some-behind-clause-read : goal.designators::part-returns-in_err-arguments-in-Some-behind-clause-read
designators::part-returns-in_err-arguments-in-Some-behind-clause-read t c =
    let p = err_from_is_err_and c.from_residual.result c.from_residual.ensures.1 in
    let b = c.in-Some.ensures in
    let d = c.in-Some-behind.ensures in
    rw (p.1, p.2) (refused _ _ _ (part_within_fails c.args.items.now c.in-Some.item c.in-Some.tail.now d.0 c.in-Some-behind.field-0.now b.0 d.1 d.2) c.in_err-arguments-in-Some-behind.ensures.read)

pub designators::part-returns-in_ok-arguments-in-Some-behind-clause-read : goal.designators::part-returns-in_ok-arguments-in-Some-behind-clause-read
designators::part-returns-in_ok-arguments-in-Some-behind-clause-read t c =
    let b = c.in-Some.ensures in
    let d = c.in-Some-behind.ensures in
    rw c.name.ensures (part_within c.args.items.now c.in-Some.item c.in-Some.tail.now d.0 c.in-Some-behind.field-0.now _ _ b.0 b.1 d.1 d.2 c.in_ok-arguments-in-Some-behind.ensures.read)

pub designators::part-returns-in-None-behind-clause-read : goal.designators::part-returns-in-None-behind-clause-read
designators::part-returns-in-None-behind-clause-read t c =
    let b = c.in-Some.ensures in
    rw c.name-in-None-behind.ensures (part_bare c.args.items.now c.in-Some.item c.in-Some.tail.now b.0 b.1 (starts_no_open c.in-Some.tail.now c.in-None-behind.ensures))

pub arguments::positional-returns-in_err-first-in-None-behind-clause-read : goal.arguments::positional-returns-in_err-first-in-None-behind-clause-read
arguments::positional-returns-in_err-first-in-None-behind-clause-read t c =
    let p = err_from_is_err_and c.from_residual.result c.from_residual.ensures.1 in
    rw (p.1, p.2) (refused _ _ _ (value_fails c.args.items.now c.in-None-behind.ensures) c.in_err-first-in-None-behind.ensures.read)

pub arguments::positional-returns-in-None-clause-read : goal.arguments::positional-returns-in-None-clause-read
arguments::positional-returns-in-None-clause-read t c = subst (λ (x : List Item). Fails IsPositional x) (sym c.in-None.ensures) no_argument

pub arguments::positional-returns-in-Some-behind-clause-read : goal.arguments::positional-returns-in-Some-behind-clause-read
arguments::positional-returns-in-Some-behind-clause-read t c =
    let b = c.in-Some-behind.ensures in
    colon_first c.args.items.now c.in-Some.item _ b.0 c.in-Some-behind.tail.now c.in-Some.ensures b.1 b.2 c.triplet.result c.triplet.ensures.read

pub arguments::positional-returns-in-Some-behind-2-clause-read : goal.arguments::positional-returns-in-Some-behind-2-clause-read
arguments::positional-returns-in-Some-behind-2-clause-read t c =
    let b = c.in-Some-behind-2.ensures in
    colon_behind c.args.items.now c.in-Some.item _ _ _ b.0 c.in-Some-behind-2.tail.now c.in-Some.ensures c.in_ok-first-in-None-behind.ensures.read b.1 b.2 c.triplet-in-Some-behind-2.result c.triplet-in-Some-behind-2.ensures.read

pub arguments::positional-returns-in-None-behind-2-clause-read : goal.arguments::positional-returns-in-None-behind-2-clause-read
arguments::positional-returns-in-None-behind-2-clause-read t c = rw (view_value None c.in_ok-first-in-None-behind.first) (value_reads c.args.items.now _ _ c.in-None-behind.ensures c.in_ok-first-in-None-behind.ensures.read c.in-None-behind-2.ensures)

pub primaries::primary-returns-in_err-parts-in-Name-clause-read : goal.primaries::primary-returns-in_err-parts-in-Name-clause-read
primaries::primary-returns-in_err-parts-in-Name-clause-read t c =
    let p = err_from_is_err_and c.from_residual.result c.from_residual.ensures.1 in
    rw (p.1, p.2) (refused _ _ _ (designator_fails c.args.items.now c.in-Some.item c.in-Some.tail.now c.in-Some.ensures (ap is_name c.in-Name.is)) c.in_err-parts-in-Name.ensures.read)

pub primaries::primary-returns-in-None-clause-read : goal.primaries::primary-returns-in-None-clause-read
primaries::primary-returns-in-None-clause-read t c = subst (λ (x : List Item). Fails (EatsUpTo 0) x) (sym c.in-None.ensures) nothing_fails

pub primaries::primary-returns-in-KindDigit-clause-read : goal.primaries::primary-returns-in-KindDigit-clause-read
primaries::primary-returns-in-KindDigit-clause-read t c = rw c.integer.ensures (integer_reads c.args.items.now c.in-Some.item c.in-Some.tail.now c.in-Some.ensures (ap is_integer c.in-KindDigit.is))

pub primaries::primary-returns-in-ShortInteger-clause-read : goal.primaries::primary-returns-in-ShortInteger-clause-read
primaries::primary-returns-in-ShortInteger-clause-read t c =
    let whole : is_integer c.in-Some.item.word ≡ true = elim c.in-ShortInteger.is [ inl e ↦ ap is_integer e | inr e ↦ ap is_integer e ] in
    rw c.integer-in-ShortInteger.ensures (integer_reads c.args.items.now c.in-Some.item c.in-Some.tail.now c.in-Some.ensures whole)

pub primaries::primary-returns-in-Truth-clause-read : goal.primaries::primary-returns-in-Truth-clause-read
primaries::primary-returns-in-Truth-clause-read t c = rw (view_truth c.in-Some.item.place c.in-Truth.truth) (truth_reads c.args.items.now c.in-Some.item c.in-Some.tail.now c.in-Truth.truth c.in-Some.ensures c.in-Truth.is)

pub primaries::primary-returns-in-Text-clause-read : goal.primaries::primary-returns-in-Text-clause-read
primaries::primary-returns-in-Text-clause-read t c = rw (view_text c.in-Some.item.place c.in-Some.item.symbol) (text_reads c.args.items.now c.in-Some.item c.in-Some.tail.now c.in-Some.ensures c.in-Text.is)

pub primaries::primary-returns-in_ok-parts-in-Name-clause-read : goal.primaries::primary-returns-in_ok-parts-in-Name-clause-read
primaries::primary-returns-in_ok-parts-in-Name-clause-read t c = rw (view_designator c.in_ok-parts-in-Name.parts) (designator_reads c.args.items.now c.in-Some.item c.in-Some.tail.now _ _ c.in-Some.ensures (ap is_name c.in-Name.is) c.in_ok-parts-in-Name.ensures.read)

pub primaries::primary-returns-in_default : goal.primaries::primary-returns-in_default
primaries::primary-returns-in_default t c =
    let lt = other_rank c.in-Some.item.word c.in_default.not-Name c.in_default.not-KindDigit c.in_default.not-ShortInteger c.in_default.not-LongInteger c.in_default.not-Truth c.in_default.not-Text c.in_default.not-Open c.in_default.not-OpenSlash c.in_default.not-OpenBracket in
    record { read = subst (λ (x : List Item). Fails (EatsUpTo 0) x) (sym c.in-Some.ensures) (other_fails c.in-Some.item c.in-Some.tail.now lt); shorter = tt }

pub expressions::signed_term-returns-in_err-term-in-Some-clause-read : goal.expressions::signed_term-returns-in_err-term-in-Some-clause-read
expressions::signed_term-returns-in_err-term-in-Some-clause-read t c =
    let p = err_from_is_err_and c.from_residual.result c.from_residual.ensures.1 in
    let b = c.in-Some.ensures in
    rw (p.1, p.2) (refused _ _ _ (signed_fails c.args.items.now c.in-Some.item c.in-Some.sign c.in-Some.tail.now b.0 b.1) c.in_err-term-in-Some.ensures.read)

pub expressions::signed_term-returns-in_ok-new-in-Some-clause-read : goal.expressions::signed_term-returns-in_ok-new-in-Some-clause-read
expressions::signed_term-returns-in_ok-new-in-Some-clause-read t c =
    let b = c.in-Some.ensures in
    rw (view_signed c.in-Some.item.place c.in-Some.sign c.in_ok-new-in-Some.field-0, c.in_ok-new-in-Some.ensures.ok) (signed_reads c.args.items.now c.in-Some.item c.in-Some.sign c.in-Some.tail.now _ _ b.0 b.1 c.in_ok-term-in-Some.ensures.read)

pub expressions::signed_term-returns-in-None-clause-read : goal.expressions::signed_term-returns-in-None-clause-read
expressions::signed_term-returns-in-None-clause-read t c = unsigned_result c.args.items.now c.in-None.ensures c.operation-in-None.result c.operation-in-None.ensures.read

pub arguments::triplet-returns-clause-read : goal.arguments::triplet-returns-clause-read
arguments::triplet-returns-clause-read t c = rw (view_triplet c.args.place c.args.first c.in_ok-last.last c.in_ok-stride.stride) (triplet_reads c.args.place (bound_view c.args.first) c.args.items.now _ _ _ _ c.in_ok-last.ensures.read c.in_ok-stride.ensures.read)
