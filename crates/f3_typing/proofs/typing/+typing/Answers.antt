use Rattle.std.proofs.Common.{rules, refl, arith, sym, ap, ◌∙◌, map}
use Rattle.std.specs.List.{flat_map}
use Rattle.f3_tree.specs.Expressions.{Tree, expression_view, designator_view}
use Rattle.f3_kinds.specs.Typing.{said_parts, breaks_parts}
use Rattle.f3_typed_parts.specs.Noted.{noted}
use Rattle.f3_tree.proofs.Views.{view_integer, view_truth, view_text, view_group, view_array, view_signed, view_not, view_comparison, view_chain, view_designator, view_triplet}
use Rattle.f3_typed_parts.specs.Known.{context_of, part_of}
use Rattle.f3_typing.specs.Lists.{said_item, breaks_item, said_operand, breaks_operand, said_given, breaks_given, said_part, breaks_part, parts_in}
use Rattle.f3_typed_parts.proofs.Noting.{noted_none, noted_more, noted_done, pushed_more, pushed_done, item_step}
use Rattle.f3_typing.proofs.Trees.{said_view, breaks_view, rest_same, rest_breaks, all_same, all_breaks, given_view, designator_noted, part_more, part_made, part_noted, other_said, other_noted, parts_same, parts_breaks}
use Rattle.f3_typing.proofs.typing.+typing.Goals as goal

pub expression-returns-in-Integer-clause-noted : goal.expression-returns-in-Integer-clause-noted
expression-returns-in-Integer-clause-noted t c = breaks_view (context_of c.args.known.now c.args.at) _ _ _ _ _ c.in-Integer.is (view_integer _ _) (sym (noted_none _))

pub expression-returns-in-Truth-clause-noted : goal.expression-returns-in-Truth-clause-noted
expression-returns-in-Truth-clause-noted t c = breaks_view (context_of c.args.known.now c.args.at) _ _ _ _ _ c.in-Truth.is (view_truth _ _) (sym (noted_none _))

pub expression-returns-in_ok-inner-in-Signed-clause-noted : goal.expression-returns-in_ok-inner-in-Signed-clause-noted
expression-returns-in_ok-inner-in-Signed-clause-noted t c = breaks_view (context_of c.args.known.now c.args.at) _ _ _ _ _ c.in-Signed.is (view_signed _ _ _) (search (rules, noted_more))

pub expression-returns-in_ok-inner-in-Not-clause-noted : goal.expression-returns-in_ok-inner-in-Not-clause-noted
expression-returns-in_ok-inner-in-Not-clause-noted t c = breaks_view (context_of c.args.known.now c.args.at) _ _ _ _ _ c.in-Not.is (view_not _ _) (search (rules, noted_more))

pub expression-returns-in_ok-right-in-Comparison-clause-noted : goal.expression-returns-in_ok-right-in-Comparison-clause-noted
expression-returns-in_ok-right-in-Comparison-clause-noted t c = breaks_view (context_of c.args.known.now c.args.at) _ _ _ _ _ c.in-Comparison.is (view_comparison _ _ _) (search (rules, noted_more))

pub expression-returns-in_ok-items-in-Array-clause-noted : goal.expression-returns-in_ok-items-in-Array-clause-noted
expression-returns-in_ok-items-in-Array-clause-noted t c = breaks_view (context_of c.args.known.now c.args.at) _ _ _ _ _ c.in-Array.is (view_array _ _) (rw (all_breaks, all_same) (search (rules, noted_more)))

pub expression-returns-in_ok-items-in-Array-clause-said : goal.expression-returns-in_ok-items-in-Array-clause-said
expression-returns-in_ok-items-in-Array-clause-said t c = said_view (context_of c.args.known.now c.args.at) _ _ _ _ c.in-Array.is (view_array _ _) (rw all_same (search rules))

pub expression-returns-in_ok-others-in-Chain-clause-noted : goal.expression-returns-in_ok-others-in-Chain-clause-noted
expression-returns-in_ok-others-in-Chain-clause-noted t c = breaks_view (context_of c.args.known.now c.args.at) _ _ _ _ _ c.in-Chain.is (view_chain _ _) (rw (rest_breaks, rest_same) (search (rules, noted_more)))

pub expression-returns-in_ok-others-in-Chain-clause-said : goal.expression-returns-in_ok-others-in-Chain-clause-said
expression-returns-in_ok-others-in-Chain-clause-said t c = said_view (context_of c.args.known.now c.args.at) _ _ _ _ c.in-Chain.is (view_chain _ _) (rw rest_same (search rules))

pub rest-loop-e-preserved : goal.rest-loop-e-preserved
rest-loop-e-preserved t c = record {
  said = pushed_more (said_operand (context_of c.args.known.now c.args.at)) c.args.others.now c.loop-e.e-index c.loop-e-item.result c.loop-e.saids.items c.push.new.self.items _ c.in_ok-expression.field-0 c.loop-e-test.true c.loop-e-item.is (search rules) (search rules) c.loop-e.invariant.said;
  noted = item_step (breaks_operand (context_of c.args.known.now c.args.at)) c.args.others.now c.loop-e.e-index c.loop-e-item.result c.loop-e.first c.expression.new.first _ c.loop-e-test.true c.loop-e-item.is (search rules) c.loop-e.invariant.noted;
}

pub rest-returns-clause-said : goal.rest-returns-clause-said
rest-returns-clause-said t c = pushed_done (said_operand (context_of c.args.known.now c.args.at)) c.args.others.now c.loop-e.e-index c.loop-e.saids.items _ (omega (arith, c.loop-e-test.false)) c.loop-e.invariant.said

pub rest-returns-clause-noted : goal.rest-returns-clause-noted
rest-returns-clause-noted t c = noted_done (flat_map (breaks_operand (context_of c.args.known.now c.args.at))) c.args.others.now c.loop-e.e-index c.loop-e.first _ (omega (arith, c.loop-e-test.false)) refl c.loop-e.invariant.noted

pub all-loop-e-preserved : goal.all-loop-e-preserved
all-loop-e-preserved t c = record {
  said = pushed_more (said_item (context_of c.args.known.now c.args.at)) c.args.items.now c.loop-e.e-index c.e-item.result c.loop-e.saids.items c.push.new.self.items _ c.in_ok-expression.field-0 c.loop-e-test.true c.e-item.is (search rules) (search rules) c.loop-e.invariant.said;
  noted = item_step (breaks_item (context_of c.args.known.now c.args.at)) c.args.items.now c.loop-e.e-index c.e-item.result c.loop-e.first c.expression.new.first _ c.loop-e-test.true c.e-item.is (search rules) c.loop-e.invariant.noted;
}

pub all-returns-clause-said : goal.all-returns-clause-said
all-returns-clause-said t c = pushed_done (said_item (context_of c.args.known.now c.args.at)) c.args.items.now c.loop-e.e-index c.loop-e.saids.items _ (omega (arith, c.loop-e-test.false)) c.loop-e.invariant.said

pub all-returns-clause-noted : goal.all-returns-clause-noted
all-returns-clause-noted t c = noted_done (flat_map (breaks_item (context_of c.args.known.now c.args.at))) c.args.items.now c.loop-e.e-index c.loop-e.first _ (omega (arith, c.loop-e-test.false)) refl c.loop-e.invariant.noted

pub arguments-loop-one-preserved : goal.arguments-loop-one-preserved
arguments-loop-one-preserved t c = record {
  said = pushed_more (said_given (context_of c.args.known.now c.args.at)) c.args.list.now c.loop-one.one-index c.one-item.result c.loop-one.given.items c.push.new.self.items _ c.in_ok-argument.field-0 c.loop-one-test.true c.one-item.is (search rules) (search rules) c.loop-one.invariant.said;
  noted = item_step (breaks_given (context_of c.args.known.now c.args.at)) c.args.list.now c.loop-one.one-index c.one-item.result c.loop-one.first c.argument.new.first _ c.loop-one-test.true c.one-item.is (search rules) c.loop-one.invariant.noted;
}

pub arguments-returns-clause-said : goal.arguments-returns-clause-said
arguments-returns-clause-said t c = pushed_done (said_given (context_of c.args.known.now c.args.at)) c.args.list.now c.loop-one.one-index c.loop-one.given.items _ (omega (arith, c.loop-one-test.false)) c.loop-one.invariant.said

pub arguments-returns-clause-noted : goal.arguments-returns-clause-noted
arguments-returns-clause-noted t c = noted_done (flat_map (breaks_given (context_of c.args.known.now c.args.at))) c.args.list.now c.loop-one.one-index c.loop-one.first _ (omega (arith, c.loop-one-test.false)) refl c.loop-one.invariant.noted

pub argument-returns-in_ok-stride-in-Triplet-clause-noted : goal.argument-returns-in_ok-stride-in-Triplet-clause-noted
argument-returns-in_ok-stride-in-Triplet-clause-noted t c = given_view (context_of c.args.known.now c.args.at) _ _ _ _ _ c.in-Triplet.is (view_triplet _ _ _ _) (search (rules, noted_more))

pub expression-returns-in_ok-said-in-Designator-clause-noted : goal.expression-returns-in_ok-said-in-Designator-clause-noted
expression-returns-in_ok-said-in-Designator-clause-noted t c =
    designator_noted (context_of c.args.known.now c.args.at) (expression_view c.args.e.now) (designator_view c.in-Designator.field-0) (map part_of c.deref.result.now) c.args.first.now c.parts.new.first c.designator.new.first
    (ap expression_view c.in-Designator.is ∙ view_designator c.in-Designator.field-0)
    (ap (map part_of) c.deref.ensures.value ∙ c.in_ok-list-in-Designator.ensures.said) c.in_ok-list-in-Designator.ensures.noted (search rules)

pub parts-loop-part-preserved-in-Some : goal.parts-loop-part-preserved-in-Some
parts-loop-part-preserved-in-Some t c = record {
  said = part_more (context_of c.args.known.now c.args.at) c.deref-part-items.result.now c.loop-part.part-index c.part-item.result c.loop-part.done.items c.push.new.self.items c.with_given.result _ c.loop-part-test.true c.part-item.is
      (part_made (context_of c.args.known.now c.args.at) c.part-item.result.0 c.part-item.result.1 c.in-Some.list _ c.in_ok-given-in-Designator.given.items _ c.with_given.ensures c.in_ok-given-in-Designator.ensures.said c.deref.ensures.value c.in-Some.is) c.in_ok-push-in-Designator.ensures.items c.loop-part.invariant.said;
  noted = item_step (breaks_part (context_of c.args.known.now c.args.at)) c.deref-part-items.result.now c.loop-part.part-index c.part-item.result c.loop-part.first c.arguments.new.first _ c.loop-part-test.true c.part-item.is
      (part_noted (context_of c.args.known.now c.args.at) c.part-item.result.0 c.part-item.result.1 c.in-Some.list c.deref.result.now c.loop-part.first c.arguments.new.first c.in_ok-given-in-Designator.ensures.noted c.deref.ensures.value c.in-Some.is) c.loop-part.invariant.noted;
}

pub parts-returns-after-loop-part-clause-said : goal.parts-returns-after-loop-part-clause-said
parts-returns-after-loop-part-clause-said t c =
    pushed_done (said_part (context_of c.args.known.now c.args.at)) c.deref-part-items.result.now c.loop-part.part-index (map part_of c.loop-part.done.items) _ (omega (arith, c.loop-part-test.false)) c.loop-part.invariant.said
    ∙ ap (map (said_part (context_of c.args.known.now c.args.at))) c.deref-part-items.ensures.value
    ∙ sym (parts_same (context_of c.args.known.now c.args.at) c.in-Designator.list.items)
    ∙ ap (λ (x : Tree). said_parts (context_of c.args.known.now c.args.at) (parts_in x)) (sym (ap expression_view c.in-Designator.is ∙ view_designator c.in-Designator.list))

pub parts-returns-after-loop-part-clause-noted : goal.parts-returns-after-loop-part-clause-noted
parts-returns-after-loop-part-clause-noted t c =
    noted_done (flat_map (breaks_part (context_of c.args.known.now c.args.at))) c.deref-part-items.result.now c.loop-part.part-index c.loop-part.first _ (omega (arith, c.loop-part-test.false)) refl c.loop-part.invariant.noted
    ∙ ap (λ xs. noted c.args.first.now (flat_map (breaks_part (context_of c.args.known.now c.args.at)) xs)) c.deref-part-items.ensures.value
    ∙ ap (noted c.args.first.now) (sym (parts_breaks (context_of c.args.known.now c.args.at) c.in-Designator.list.items))
    ∙ ap (λ (x : Tree). noted c.args.first.now (breaks_parts (context_of c.args.known.now c.args.at) (parts_in x))) (sym (ap expression_view c.in-Designator.is ∙ view_designator c.in-Designator.list))

pub parts-returns-in-Integer-clause-said : goal.parts-returns-in-Integer-clause-said
parts-returns-in-Integer-clause-said t c = other_said (context_of c.args.known.now c.args.at) _ _ c.new-done.result.items c.new-done.ensures.items (ap expression_view c.in-Integer.is ∙ view_integer _ _) refl

pub parts-returns-in-Integer-clause-noted : goal.parts-returns-in-Integer-clause-noted
parts-returns-in-Integer-clause-noted t c = other_noted (context_of c.args.known.now c.args.at) _ _ c.args.first.now (ap expression_view c.in-Integer.is ∙ view_integer _ _) refl

pub parts-returns-in-Truth-clause-said : goal.parts-returns-in-Truth-clause-said
parts-returns-in-Truth-clause-said t c = other_said (context_of c.args.known.now c.args.at) _ _ c.new-done.result.items c.new-done.ensures.items (ap expression_view c.in-Truth.is ∙ view_truth _ _) refl

pub parts-returns-in-Truth-clause-noted : goal.parts-returns-in-Truth-clause-noted
parts-returns-in-Truth-clause-noted t c = other_noted (context_of c.args.known.now c.args.at) _ _ c.args.first.now (ap expression_view c.in-Truth.is ∙ view_truth _ _) refl

pub parts-returns-in-Text-clause-said : goal.parts-returns-in-Text-clause-said
parts-returns-in-Text-clause-said t c = other_said (context_of c.args.known.now c.args.at) _ _ c.new-done.result.items c.new-done.ensures.items (ap expression_view c.in-Text.is ∙ view_text _ _) refl

pub parts-returns-in-Text-clause-noted : goal.parts-returns-in-Text-clause-noted
parts-returns-in-Text-clause-noted t c = other_noted (context_of c.args.known.now c.args.at) _ _ c.args.first.now (ap expression_view c.in-Text.is ∙ view_text _ _) refl

pub parts-returns-in-Group-clause-said : goal.parts-returns-in-Group-clause-said
parts-returns-in-Group-clause-said t c = other_said (context_of c.args.known.now c.args.at) _ _ c.new-done.result.items c.new-done.ensures.items (ap expression_view c.in-Group.is ∙ view_group _ _) refl

pub parts-returns-in-Group-clause-noted : goal.parts-returns-in-Group-clause-noted
parts-returns-in-Group-clause-noted t c = other_noted (context_of c.args.known.now c.args.at) _ _ c.args.first.now (ap expression_view c.in-Group.is ∙ view_group _ _) refl

pub parts-returns-in-Array-clause-said : goal.parts-returns-in-Array-clause-said
parts-returns-in-Array-clause-said t c = other_said (context_of c.args.known.now c.args.at) _ _ c.new-done.result.items c.new-done.ensures.items (ap expression_view c.in-Array.is ∙ view_array _ _) refl

pub parts-returns-in-Array-clause-noted : goal.parts-returns-in-Array-clause-noted
parts-returns-in-Array-clause-noted t c = other_noted (context_of c.args.known.now c.args.at) _ _ c.args.first.now (ap expression_view c.in-Array.is ∙ view_array _ _) refl

pub parts-returns-in-Signed-clause-said : goal.parts-returns-in-Signed-clause-said
parts-returns-in-Signed-clause-said t c = other_said (context_of c.args.known.now c.args.at) _ _ c.new-done.result.items c.new-done.ensures.items (ap expression_view c.in-Signed.is ∙ view_signed _ _ _) refl

pub parts-returns-in-Signed-clause-noted : goal.parts-returns-in-Signed-clause-noted
parts-returns-in-Signed-clause-noted t c = other_noted (context_of c.args.known.now c.args.at) _ _ c.args.first.now (ap expression_view c.in-Signed.is ∙ view_signed _ _ _) refl

pub parts-returns-in-Not-clause-said : goal.parts-returns-in-Not-clause-said
parts-returns-in-Not-clause-said t c = other_said (context_of c.args.known.now c.args.at) _ _ c.new-done.result.items c.new-done.ensures.items (ap expression_view c.in-Not.is ∙ view_not _ _) refl

pub parts-returns-in-Not-clause-noted : goal.parts-returns-in-Not-clause-noted
parts-returns-in-Not-clause-noted t c = other_noted (context_of c.args.known.now c.args.at) _ _ c.args.first.now (ap expression_view c.in-Not.is ∙ view_not _ _) refl

pub parts-returns-in-Comparison-clause-said : goal.parts-returns-in-Comparison-clause-said
parts-returns-in-Comparison-clause-said t c = other_said (context_of c.args.known.now c.args.at) _ _ c.new-done.result.items c.new-done.ensures.items (ap expression_view c.in-Comparison.is ∙ view_comparison _ _ _) refl

pub parts-returns-in-Comparison-clause-noted : goal.parts-returns-in-Comparison-clause-noted
parts-returns-in-Comparison-clause-noted t c = other_noted (context_of c.args.known.now c.args.at) _ _ c.args.first.now (ap expression_view c.in-Comparison.is ∙ view_comparison _ _ _) refl

pub parts-returns-in-Chain-clause-said : goal.parts-returns-in-Chain-clause-said
parts-returns-in-Chain-clause-said t c = other_said (context_of c.args.known.now c.args.at) _ _ c.new-done.result.items c.new-done.ensures.items (ap expression_view c.in-Chain.is ∙ view_chain _ _) refl

pub parts-returns-in-Chain-clause-noted : goal.parts-returns-in-Chain-clause-noted
parts-returns-in-Chain-clause-noted t c = other_noted (context_of c.args.known.now c.args.at) _ _ c.args.first.now (ap expression_view c.in-Chain.is ∙ view_chain _ _) refl
