use Rattle.std.proofs.Common.{refl, arith, List, ap, ◌∙◌}
use Rattle.f3_rules.specs.declared.rule.Rule.TheVariants.{T8}
use Rattle.f3_kinds.specs.declared.said.Given.{Given}
use Rattle.f3_kinds.specs.Rows.{at_place, unless}
use Rattle.f3_kinds.specs.Calls.{actual_rows, or_first}
use Rattle.f3_typed_parts.specs.Noted.{noted}
use Rattle.f3_typed_parts.proofs.Noting.{noted_done}
use Rattle.f3_references.proofs.Actuals.{actuals_more}
use Rattle.f3_references.proofs.intrinsics.actuals.Goals as goal

pub loop-position-preserved : goal.loop-position-preserved
loop-position-preserved c =
    actuals_more c.args.intrinsic c.args.given.now c.loop-position.position _ c.loop-position.data_type c.or_first-data_type.result c.actual_right-fit.result c.loop-position.first c.unless.new.first _
    c.loop-position-test.true c.actual_right-fit.ensures
    (c.unless.ensures ∙ ap (λ b. noted c.loop-position.first (unless c.actual_right-fit.result b)) (c.at_place.ensures ∙ ap (at_place 6 T8) c.given_place.ensures))
    (c.or_first-data_type.ensures ∙ ap (or_first c.loop-position.data_type) c.integer_type.ensures) c.loop-position.invariant

pub returns : goal.returns
returns c =
    noted_done (λ (gs : List Given). actual_rows c.args.intrinsic c.loop-position.data_type c.loop-position.position gs) c.args.given.now c.loop-position.position c.loop-position.first _
    (omega (arith, c.loop-position-test.false)) refl c.loop-position.invariant
