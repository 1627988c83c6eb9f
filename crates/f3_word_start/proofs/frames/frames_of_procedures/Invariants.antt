use Rattle.std.proofs.Common.{take}
use Rattle.f3_room_places.specs.Places.{shapes}
use Rattle.f3_word_start.specs.Frames.{HaveFrames}
use Rattle.f3_word_start.proofs.frames.frames_of_procedures.Given as goal

abbrev pub invariant-loop-procedure : goal.invariant-loop-procedure
invariant-loop-procedure l = HaveFrames (shapes l.types) (take l.procedure-index l.procedures) l.frames.items
