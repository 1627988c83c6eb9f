-- Cells of one kind that are taken from the top.
use Rattle.std.specs.Prelude.{◌≡◌, ℕ, List, ◌∷◌, Option, None, Some}
use Rattle.f3_word_cells.specs.declared.cell.Cell.{Cell}
use Rattle.f3_word_cells.specs.declared.cell.Cell.TheVariants as c
use Rattle.f3_word_cells.specs.declared.cell.Range.{Range}
use Rattle.f3_word_cells.specs.declared.state.State.{State}
use Rattle.f3_word_cells.specs.States.{own}
use Rattle.f3_word_cells.specs.Moves.{Popped}

abbrev pub level_cell : ℕ × Range → Cell
level_cell x = c.Level x.0 x.1

-- A cell of this kind was taken from the top, or none stands there.
abbrev pub Took : {X : Type 0} → (X → Cell) → Option X → State → State → Type 0
Took of None old new = (x : _) (rest : List Cell) → own old ≡ of x ∷ rest → ⊥
Took of (Some x) old new = Popped (of x) old new
