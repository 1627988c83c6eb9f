use Rattle.std.proofs.Common.{refl, arith, ap, ◌∙◌}
use Rattle.f3_typed_parts.proofs.Noting.{noted_done}
use Rattle.f3_typed_parts.specs.Noted.{noted}
use Rattle.f3_cases.proofs.Statements.{defaults_from, defaults_more, defaults_same}
use Rattle.f3_cases.proofs.select.all_defaults.Goals as goal

pub loop-case-preserved : goal.loop-case-preserved
loop-case-preserved c = defaults_more c.args.cases.now c.loop-case.case-index c.case-item.result c.loop-case.seen c.loop-case.first c.default-seen.new.first _ c.default-seen.result c.loop-case-test.true c.case-item.is c.default-seen.ensures.seen c.default-seen.ensures.noted c.loop-case.invariant

pub returns : goal.returns
returns c =
    noted_done (defaults_from c.loop-case.seen) c.args.cases.now c.loop-case.case-index c.loop-case.first _ (omega (arith, c.loop-case-test.false)) refl c.loop-case.invariant
    ∙ ap (noted c.args.first.now) (defaults_same c.args.cases.now)
