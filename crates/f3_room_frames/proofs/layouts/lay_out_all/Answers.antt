use Rattle.std.proofs.Common.{arith}
use Rattle.f3_room_frames.proofs.LayoutLaws.{next_layout}
use Rattle.f3_room_frames.proofs.layouts.lay_out_all.Goals as goal

pub loop-procedure-preserved : goal.loop-procedure-preserved
loop-procedure-preserved c = λ ts have. next_layout ts c.args.procedures.now c.loop-procedure.procedure-index c.procedure-item.result c.loop-procedure.layouts.items _ c.in_ok-lay_out_procedure.field-0
    (c.loop-procedure.invariant ts have) (c.in_ok-lay_out_procedure.ensures ts have) c.in_ok-push.ensures.items (omega arith) c.procedure-item.is
