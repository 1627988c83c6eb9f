use Rattle.std.proofs.Common.{List, take, map}
use Rattle.f3_program.specs.declared.program.Static.{Static}
use Rattle.f3_meaning_whole.specs.Shape.{Shape}
use Rattle.f3_rooms.specs.Forms.{total}
use Rattle.f3_type_words.specs.Tables.{AreTables}
use Rattle.f3_sizes.specs.Words.{AreWords}
use Rattle.f3_sizes.proofs.words.statics.Given as goal

abbrev pub invariant-loop-one : goal.invariant-loop-one
invariant-loop-one l = (ts : List Shape) → AreTables ts l.tables → AreWords l.words (total ts (take l.one-index (map (λ (x : Static). x.declared) l.one-items)))
