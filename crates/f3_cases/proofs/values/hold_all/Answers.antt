use Rattle.std.proofs.Common.{rules, refl, arith, ap, ◌∙◌, map}
use Rattle.std.proofs.lemmas.List.{map-append}
use Rattle.std.specs.List.{flat_map}
use Rattle.f3_typed_parts.specs.Known.{context_of}
use Rattle.f3_typed_parts.proofs.Noting.{noted_done, pushed_more, pushed_done, item_step}
use Rattle.f3_cases.specs.Inner.Spans.{held_view, held_value, value_rows}
use Rattle.f3_cases.proofs.values.hold_all.Goals as goal

pub loop-case-preserved : goal.loop-case-preserved
loop-case-preserved c = record {
  held = pushed_more (held_value (context_of c.args.known.now c.args.at) c.args.data_type) c.args.cases.now c.loop-case.case-index c.case-item.result (map held_view c.loop-case.all.items) (map held_view c.push.new.self.items) _ (held_view c.in_ok-held.field-0) c.loop-case-test.true c.case-item.is (search rules) (ap (map held_view) c.in_ok-push.ensures.items ∙ map-append held_view c.loop-case.all.items _) c.loop-case.invariant.held;
  noted = item_step (value_rows (context_of c.args.known.now c.args.at) c.args.data_type) c.args.cases.now c.loop-case.case-index c.case-item.result c.loop-case.first c.held.new.first _ c.loop-case-test.true c.case-item.is (search rules) c.loop-case.invariant.noted;
}

pub returns-clause-held : goal.returns-clause-held
returns-clause-held c = pushed_done (held_value (context_of c.args.known.now c.args.at) c.args.data_type) c.args.cases.now c.loop-case.case-index (map held_view c.loop-case.all.items) _ (omega (arith, c.loop-case-test.false)) c.loop-case.invariant.held

pub returns-clause-noted : goal.returns-clause-noted
returns-clause-noted c = noted_done (flat_map (value_rows (context_of c.args.known.now c.args.at) c.args.data_type)) c.args.cases.now c.loop-case.case-index c.loop-case.first _ (omega (arith, c.loop-case-test.false)) refl c.loop-case.invariant.noted
