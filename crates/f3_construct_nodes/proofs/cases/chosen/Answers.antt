use Rattle.f3_elaboration.specs.Views.{statement_view}
use Rattle.f3_construct_nodes.proofs.Folds.{case_popped}
use Rattle.f3_construct_nodes.proofs.cases.chosen.Goals as goal

pub loop-last-preserved : goal.loop-last-preserved
loop-last-preserved c =
    case_popped c.loop-last.list.items c.pop.new.self.items c.in-Some.last (statement_view c.loop-last.node) (statement_view c.in-Ok.made) _
    c.in-Some.ensures.items c.in-Ok.ensures c.loop-last.invariant
