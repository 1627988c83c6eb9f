use Rattle.f3_type_words.specs.Tables.{AreTables}
use Rattle.std.proofs.Common.{List, map, take}
use Rattle.f3_program.specs.declared.program.Static as static
use Rattle.f3_room_frames.specs.Layouts.{IsLayout}
use Rattle.f3_meaning_whole.specs.Shape.{Shape}
use Rattle.f3_room_frames.proofs.laying.lay_out_statics.Given as goal

abbrev pub invariant-loop-one : goal.invariant-loop-one
invariant-loop-one l = (ts : List Shape) → AreTables ts l.tables → IsLayout ts (take l.one-index (map (λ (s : static.Static). s.declared) l.statics)) l.layout
