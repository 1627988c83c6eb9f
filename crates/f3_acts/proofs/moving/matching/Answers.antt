use Rattle.std.proofs.Common.{rules, refl, arith, List, true, ap, ◌∙◌, ◌||◌}
use Rattle.f3_rules.specs.declared.rule.Rule.TheVariants.{T8}
use Rattle.f3_kinds.specs.declared.said.Given.{Given}
use Rattle.f3_kinds.specs.Rows.{at_place, unless}
use Rattle.f3_kinds.specs.Calls.{argument_rows}
use Rattle.f3_typed_parts.specs.Noted.{noted}
use Rattle.f3_typed_parts.proofs.Noting.{noted_done}
use Rattle.f3_references.proofs.Matching.{state, matching_more}
use Rattle.f3_acts.proofs.moving.matching.Goals as goal

pub loop-position-preserved : goal.loop-position-preserved
loop-position-preserved c =
    let all = matching_more c.args.dummies.now c.args.given.now c.loop-position.position _ c.loop-position.taken.keys c.take.new.taken.keys c.loop-position.keyed c.either-keyed.result c.place_for-place.result
    c.argument_fits-fit.result true c.argument_fits-fit.result _ c.loop-position.first c.unless.new.first _ _ c.loop-position-test.true c.place_for-place.ensures c.argument_fits-fit.ensures
    (c.unless.ensures ∙ ap (λ b. noted c.loop-position.first (unless c.argument_fits-fit.result b)) (c.at_place.ensures ∙ ap (at_place 6 T8) c.given_place.ensures))
    (search rules) (c.either-keyed.ensures ∙ ap (λ x. c.loop-position.keyed || x) c.is_keyed.ensures) refl
    refl c.loop-position.invariant.taken c.loop-position.invariant.noted in
    record { taken = all.1; noted = all.2 }

pub returns-clause-noted : goal.returns-clause-noted
returns-clause-noted c =
    noted_done (λ (gs : List Given). argument_rows c.args.dummies.now c.loop-position.position gs (state c.loop-position.taken.keys c.loop-position.keyed)) c.args.given.now c.loop-position.position c.loop-position.first _
    (omega (arith, c.loop-position-test.false)) refl c.loop-position.invariant.noted
