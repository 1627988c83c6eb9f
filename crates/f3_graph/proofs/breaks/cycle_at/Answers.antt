use Rattle.f3_graph.proofs.Cycling.{one_cycle}
use Rattle.f3_graph.proofs.breaks.cycle_at.Goals as goal

pub returns-in_ok-is_broken-in-Some : goal.returns-in_ok-is_broken-in-Some
returns-in_ok-is_broken-in-Some c =
    one_cycle c.args.graph.now c.args.link.now c.in-Some.target c.in_ok-is_broken-in-Some.is_broken c.break_if.result c.in-Some.is c.in_ok-is_broken-in-Some.ensures c.break_if.ensures
