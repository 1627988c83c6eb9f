use Rattle.f3_type_words.specs.Tables.{AreTables}
use Rattle.std.proofs.Common.{List, take}
use Rattle.f3_room_frames.specs.Layouts.{HaveLayouts}
use Rattle.f3_meaning_whole.specs.Shape.{Shape}
use Rattle.f3_room_frames.proofs.layouts.lay_out_all.Given as goal

abbrev pub invariant-loop-procedure : goal.invariant-loop-procedure
invariant-loop-procedure l = (ts : List Shape) → AreTables ts l.tables → HaveLayouts ts (take l.procedure-index l.procedures) l.layouts.items
