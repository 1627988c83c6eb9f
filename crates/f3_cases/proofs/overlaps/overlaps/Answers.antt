use Rattle.std.proofs.Common.{refl, not, arith, map, ap, ◌∙◌}
use Rattle.f3_rules.specs.declared.breaks.Break.{Break}
use Rattle.f3_kinds.specs.Rows.{unless}
use Rattle.f3_typed_parts.specs.Noted.{noted}
use Rattle.f3_typed_parts.proofs.Noting.{noted_done}
use Rattle.f3_cases.specs.Inner.Spans.{held_view, overlaps}
use Rattle.f3_cases.proofs.Seeing.{overlaps_more}
use Rattle.f3_cases.proofs.overlaps.overlaps.Goals as goal

pub loop-held-preserved : goal.loop-held-preserved
loop-held-preserved c =
    let spans = c.loop-held.invariant.0 in
    let sees = c.loop-held.invariant.1 in (
      _,
      c.in_ok-see.ensures spans sees,
      overlaps_more spans c.args.all.now c.loop-held.held-index _ _ c.loop-held.first c.unless.new.first _ c.loop-held-test.true (c.meets-apart.ensures spans sees) (c.unless.ensures ∙ ap (λ (b : Break). noted c.loop-held.first (unless (not c.meets-apart.result) b)) c.at_place.ensures) c.loop-held.invariant.2,
    )

pub returns : goal.returns
returns c = noted_done (λ hs. overlaps c.loop-held.invariant.0 (map held_view hs)) c.args.all.now c.loop-held.held-index c.loop-held.first _ (omega (arith, c.loop-held-test.false)) refl c.loop-held.invariant.2
