use Rattle.std.specs.declared.alloc.AllocError.{AllocError}
use Rattle.f3_nodes.proofs.Walking.{visited, one_more}
use Rattle.f3_nodes.proofs.walk.used_first.Goals as goal

pub loop-root-preserved : goal.loop-root-preserved
loop-root-preserved c =
    one_more c.args.uses.now c.loop-root.root c.loop-root.order.items c.finish.new.marks.items c.finish.new.order.items
    (visited AllocError c.args.uses.now c.loop-root.root c.loop-root.order.items c.in_ok-finish.field-0 c.finish.new.marks.items c.finish.new.order.items c.if-not-branch.false c.in_ok-finish.ensures) c.loop-root.invariant.2
