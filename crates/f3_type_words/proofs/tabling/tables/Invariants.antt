use Rattle.std.proofs.Common.{take, ◌≤◌}
use Rattle.std.specs.Prelude.{All}
use Rattle.f3_meaning_whole.specs.Shape.{shapes_of}
use Rattle.f3_type_words.specs.Most.{most_words}
use Rattle.f3_rooms.specs.Forms.{words_for}
use Rattle.f3_type_words.specs.Tables.{AreTables}
use Rattle.f3_type_words.proofs.tabling.tables.Given as goal

abbrev pub invariant-loop-one : goal.invariant-loop-one
invariant-loop-one l = AreTables (shapes_of (take l.one-index l.types)) l.tables.items × All (λ s. words_for s ≤ most_words) (shapes_of (take l.one-index l.types))
