use Rattle.std.proofs.Common.{rules, refl, arith, map}
use Rattle.std.specs.List.{flat_map}
use Rattle.f3_typed_parts.specs.Known.{context_of}
use Rattle.f3_typed_parts.proofs.Noting.{noted_done, item_step}
use Rattle.f3_cases.specs.Inner.Blocks.{chosen_held, chosen_rows}
use Rattle.f3_cases.specs.Inner.Spans.{held_view}
use Rattle.f3_cases.proofs.Statements.{Case, appended_more, appended_done}
use Rattle.f3_cases.proofs.select.all_chosen.Goals as goal

pub loop-case-preserved : goal.loop-case-preserved
loop-case-preserved c = record {
  held = appended_more (λ (x : Case). chosen_held (context_of c.args.known.now c.args.at) c.args.data_type x.1) c.args.cases.now c.loop-case.case-index c.case-item.result (map held_view c.loop-case.all.items) (map held_view c.chosen.new.all.items) _ c.loop-case-test.true c.case-item.is (search rules) c.loop-case.invariant.held;
  noted = item_step (λ (x : Case). chosen_rows (context_of c.args.known.now c.args.at) c.args.data_type x.1) c.args.cases.now c.loop-case.case-index c.case-item.result c.loop-case.first c.chosen.new.first _ c.loop-case-test.true c.case-item.is (search rules) c.loop-case.invariant.noted;
}

pub returns-clause-held : goal.returns-clause-held
returns-clause-held c = appended_done (λ (x : Case). chosen_held (context_of c.args.known.now c.args.at) c.args.data_type x.1) c.args.cases.now c.loop-case.case-index (map held_view c.loop-case.all.items) _ (omega (arith, c.loop-case-test.false)) c.loop-case.invariant.held

pub returns-clause-noted : goal.returns-clause-noted
returns-clause-noted c = noted_done (flat_map (λ (x : Case). chosen_rows (context_of c.args.known.now c.args.at) c.args.data_type x.1)) c.args.cases.now c.loop-case.case-index c.loop-case.first _ (omega (arith, c.loop-case-test.false)) refl c.loop-case.invariant.noted
