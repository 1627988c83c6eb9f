-- Values in blocks have seven dimensions at most, as their descriptors have.
use Rattle.std.specs.Prelude.{⊤, ◌≤◌, List, [], ◌∷◌, length}
use Rattle.f3_word_cells.specs.declared.cell.Datum.{Datum}
use Rattle.f3_word_cells.specs.declared.cell.Datum.TheVariants as datum
use Rattle.f3_word_cells.specs.declared.cell.Passed.TheVariants as passed
use Rattle.f3_word_cells.specs.declared.cell.Association.TheVariants as association
use Rattle.f3_word_cells.specs.declared.cell.Cell.{Cell}
use Rattle.f3_word_cells.specs.declared.cell.Cell.TheVariants as c

abbrev pub IsRanked : Datum → Type 0
IsRanked (datum.Scalar k) = ⊤
IsRanked (datum.Block a) = length (a.elements).dims.items ≤ 7

abbrev pub IsRankedCell : Cell → Type 0
IsRankedCell (c.Datum d) = IsRanked d
IsRankedCell (c.Argument (passed.Given k d)) = IsRanked d
IsRankedCell (c.Selector (association.Holds of d)) = IsRanked d
IsRankedCell z = ⊤

abbrev pub AreRanked : List Cell → Type 0
AreRanked [] = ⊤
AreRanked (z ∷ zs) = IsRankedCell z × AreRanked zs
