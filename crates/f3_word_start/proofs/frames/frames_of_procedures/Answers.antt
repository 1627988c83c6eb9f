use Rattle.std.proofs.Common.{arith}
use Rattle.f3_meaning_whole.specs.Exec.{declared_in}
use Rattle.f3_room_places.specs.Places.{shapes}
use Rattle.f3_word_cells.specs.Scenes.{IsFrame}
use Rattle.f3_word_start.proofs.Framing.{next_procedure}
use Rattle.f3_word_start.proofs.frames.frames_of_procedures.Goals as goal

pub loop-procedure-preserved : goal.loop-procedure-preserved
loop-procedure-preserved c =
    let ts = shapes c.args.types in
    let q = c.procedure-item.result in
    let so : IsFrame ts (declared_in q) c.in-Some.frame = rw c.in-Some.is at c.in_ok-frame.ensures in
    next_procedure ts c.args.procedures.now c.loop-procedure.procedure-index q c.loop-procedure.frames.items c.push.new.self.items c.in-Some.frame (omega arith) c.procedure-item.is
    c.loop-procedure.invariant so c.in_ok-push-in-Some.ensures.items
