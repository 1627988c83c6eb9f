use Rattle.std.proofs.Common.{sym, subst, get_or, ◌<◌}
use Rattle.f3_graph.proofs.Naming.{inside_at, no_link}
use Rattle.f3_graph.proofs.links.graph.Goals as goal

pub connect-requires : goal.connect-requires
connect-requires c =
    let at = inside_at c.args.links.now c.args.count c.loop-link.link-index c.requires c.loop-link-test.true in
    subst (λ n. (get_or c.args.links.now c.loop-link.link-index no_link).home < n) (sym c.loop-link.invariant.0) at.0
