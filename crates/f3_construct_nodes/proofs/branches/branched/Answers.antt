use Rattle.std.proofs.Common.{refl}
use Rattle.f3_elaboration.specs.Nodes as n
use Rattle.f3_elaboration.specs.Views.{statement_view}
use Rattle.f3_construct_nodes.specs.Nested.{branch_of}
use Rattle.f3_construct_nodes.proofs.Folds.{branch_popped}
use Rattle.f3_construct_nodes.proofs.branches.branched.Goals as goal

pub loop-last-preserved : goal.loop-last-preserved
loop-last-preserved c =
    let b = branch_of c.in-Some.last in
    branch_popped c.loop-last.list.items c.pop.new.self.items c.in-Some.last c.pop.new.self.len c.is_empty-begins.result (statement_view c.loop-last.node)
    (n.branch b.condition b.block (statement_view c.loop-last.node)) (statement_view c.in-Ok.made) _ c.in-Some.ensures.items c.pop.new.self.ok.0 c.is_empty-begins.ensures refl
    c.in-Ok.ensures c.loop-last.invariant
