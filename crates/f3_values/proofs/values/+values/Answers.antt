use Rattle.std.proofs.Common.{◌-◌, map, rules, refl, arith, sym, ap, ◌∙◌}
use Rattle.f3_tree.specs.Expressions.{parts_list, part_view}
use Rattle.f3_kinds.specs.Values.{named_value}
use Rattle.f3_tree.proofs.Views.{view_designator}
use Rattle.f3_typed_parts.specs.Known.{context_of}
use Rattle.f3_values.proofs.Operands.{value_view, run_more, run_done, follows_at, follows_run, follows_power}
use Rattle.f3_values.proofs.values.+values.Goals as goal

pub value-returns-in-Designator : goal.value-returns-in-Designator
value-returns-in-Designator t c = value_view (context_of c.args.known.now c.args.at) _ _ _ _ c.in-Designator.is (view_designator _) (c.named_value.ensures ∙ ap (λ xs. named_value (context_of c.args.known.now c.args.at) (parts_list (map part_view xs))) c.deref.ensures.value)

pub run-loop-place-init : goal.run-loop-place-init
run-loop-place-init t c = refl

pub run-loop-place-preserved : goal.run-loop-place-preserved
run-loop-place-preserved t c = run_more (context_of c.args.known.now c.args.at) c.args.others.now c.loop-place.place c.args.to c.index-others-place.result c.loop-place.result _ _ c.loop-place-test.true c.requires c.index-others-place.is (search rules) c.loop-place.invariant

pub run-returns : goal.run-returns
run-returns t c = run_done (context_of c.args.known.now c.args.at) c.args.others.now c.loop-place.place c.args.to c.loop-place.result _ c.loop-place-test.false c.loop-place.invariant

pub chain-loop-place-preserved : goal.chain-loop-place-preserved
chain-loop-place-preserved t c = record {
  within = c.loop-place.invariant.within;
  above = omega (arith, c.loop-place.invariant.above);
  follows = follows_run (context_of c.args.known.now c.args.at) c.args.others.now (c.loop-place.place - 1) c.loop-place.end c.index-others-place.result c.loop-place.exponent (omega (arith, c.loop-place.invariant.above)) c.loop-place.invariant.within c.index-others-place.is (sym c.is_power.ensures ∙ c.if-is_power.false) (follows_at (context_of c.args.known.now c.args.at) c.args.others.now c.loop-place.place _ _ _ (omega arith) c.loop-place.invariant.follows);
}

pub chain-loop-place-preserved-then-is_power : goal.chain-loop-place-preserved-then-is_power
chain-loop-place-preserved-then-is_power t c = record {
  within = omega (arith, c.loop-place.invariant.above, c.loop-place.invariant.within);
  above = omega arith;
  follows = follows_power (context_of c.args.known.now c.args.at) c.args.others.now (c.loop-place.place - 1) c.loop-place.end c.index-others-place.result c.loop-place.exponent c.raised_to.result (omega (arith, c.loop-place.invariant.above, c.loop-place.invariant.within)) c.index-others-place.is (sym c.is_power.ensures ∙ c.if-is_power.true) (search rules) (follows_at (context_of c.args.known.now c.args.at) c.args.others.now c.loop-place.place _ _ _ (omega arith) c.loop-place.invariant.follows);
}
