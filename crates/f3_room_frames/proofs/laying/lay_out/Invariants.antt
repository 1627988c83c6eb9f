use Rattle.f3_type_words.specs.Tables.{AreTables}
use Rattle.std.proofs.Common.{List, take}
use Rattle.f3_room_frames.specs.Layouts.{IsLayout}
use Rattle.f3_meaning_whole.specs.Shape.{Shape}
use Rattle.f3_room_frames.proofs.laying.lay_out.Given as goal

abbrev pub invariant-loop-one : goal.invariant-loop-one
invariant-loop-one l = (ts : List Shape) → AreTables ts l.tables → IsLayout ts (take l.one-index l.declared) l.layout
