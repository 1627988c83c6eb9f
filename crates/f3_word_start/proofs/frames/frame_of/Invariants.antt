use Rattle.std.proofs.Common.{take}
use Rattle.f3_room_places.specs.Places.{shapes}
use Rattle.f3_word_cells.specs.Scenes.{IsFrame}
use Rattle.f3_word_start.proofs.frames.frame_of.Given as goal

abbrev pub invariant-loop-one : goal.invariant-loop-one
invariant-loop-one l = IsFrame (shapes l.types) (take l.one-index l.declared) l.frame
