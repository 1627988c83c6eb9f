use Rattle.std.proofs.Common.{List, take}
use Rattle.f3_meaning_whole.specs.Shape.{Shape}
use Rattle.f3_rooms.specs.Forms.{total}
use Rattle.f3_type_words.specs.Tables.{AreTables}
use Rattle.f3_sizes.specs.Words.{AreWords}
use Rattle.f3_sizes.proofs.words.row.Given as goal

abbrev pub invariant-loop-one : goal.invariant-loop-one
invariant-loop-one l = (ts : List Shape) → AreTables ts l.tables → AreWords l.words (total ts (take l.one-index l.declared))
