use Rattle.std.proofs.Common.{sym, subst, ◌+◌}
use Rattle.f3_sizes.specs.Parts.{AreDepths}
use Rattle.f3_sizes.proofs.Depths.{depths_more}
use Rattle.f3_sizes.proofs.needs.depths.Goals as goal

pub loop-at-preserved : goal.loop-at-preserved
loop-at-preserved c =
    subst (λ ds. AreDepths c.args.lines.now c.args.starts.now c.args.end c.args.first (c.loop-at.at + 1) ds) (sym c.in_ok-push.ensures.items)
    (depths_more c.args.lines.now c.args.starts.now c.args.end c.args.first c.loop-at.at c.loop-at.found.items c.in_ok-depth_at.field-0 c.loop-at-test.true c.loop-at.invariant
    (c.requires.parts c.loop-at.at c.loop-at-test.true) c.in_ok-depth_at.ensures)
