use Rattle.std.proofs.Common.{ap, ◌∙◌}
use Rattle.f3_rules.specs.Least.{earlier_of}
use Rattle.f3_rules.proofs.Firsts.{first_step}
use Rattle.f3_graph.specs.Inner.Links.{missing}
use Rattle.f3_graph.proofs.breaks.first_missing.Goals as goal

pub loop-link-preserved : goal.loop-link-preserved
loop-link-preserved c =
    first_step (λ k. missing k) c.args.links.now c.loop-link.link-index _ c.loop-link.first c.earlier-first.result _ c.loop-link-test.true
    (c.earlier-first.ensures ∙ ap (earlier_of c.loop-link.first) c.missing_at.ensures) c.loop-link.invariant
