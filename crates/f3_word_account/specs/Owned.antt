-- What a state over words has of a heap.
use Rattle.std.specs.Prelude.{ℕ, ◌+◌, ◌*◌, List, [], ◌∷◌, ◌++◌, length}
use Rattle.f3_program.specs.declared.program.Program.{Program}
use Rattle.f3_live_blocks.specs.Blocks.{Live, words_of}
use Rattle.f3_heap_laws.specs.Account.{r as taken_by}
use Rattle.f3_desc.specs.Laws.{size_of}
use Rattle.f3_rooms.specs.Forms.{words_for}
use Rattle.f3_word_cells.specs.declared.cell.Datum.{Datum}
use Rattle.f3_word_cells.specs.declared.cell.Datum.TheVariants as datum
use Rattle.f3_word_cells.specs.declared.cell.Passed.TheVariants as passed
use Rattle.f3_word_cells.specs.declared.cell.Association.TheVariants as association
use Rattle.f3_word_cells.specs.declared.cell.Cell.{Cell}
use Rattle.f3_word_cells.specs.declared.cell.Cell.TheVariants as c
use Rattle.f3_word_cells.specs.declared.state.State.{State}
use Rattle.f3_word_cells.specs.Areas.{shape_for}
use Rattle.f3_word_cells.specs.States.{loose_blocks}

-- the blocks of rooms: that of what lives for the whole run, and those of all levels
abbrev pub room_blocks : State → List ℕ
room_blocks w = w.statics ∷ w.blocks.items.items

-- these, and those of the values on the stack
abbrev pub owned : State → List ℕ
owned w = room_blocks w ++ loose_blocks w

-- the words that blocks take, by their lengths
abbrev pub blocks_words : Live → List ℕ → ℕ
blocks_words m [] = 0
blocks_words m (b ∷ bs) = taken_by (length (words_of m b)) + blocks_words m bs

-- The words that the values of a stack take: for each that is no scalar what a block with just its words takes, so many for each element.
abbrev pub datum_words : Program → Datum → ℕ
datum_words p (datum.Scalar k) = 0
datum_words p (datum.Block a) = taken_by (size_of (a.elements).dims.items * words_for (shape_for p a.of))

abbrev pub cell_words : Program → Cell → ℕ
cell_words p (c.Datum d) = datum_words p d
cell_words p (c.Argument (passed.Given k d)) = datum_words p d
cell_words p (c.Selector (association.Holds of d)) = datum_words p d
cell_words p x = 0

abbrev pub cells_words : Program → List Cell → ℕ
cells_words p [] = 0
cells_words p (x ∷ xs) = cell_words p x + cells_words p xs
