-- What comes onto a stack and goes from it, and nothing else changes.
use Rattle.std.specs.Prelude.{⊤, ◌≡◌, ◌≤◌, ◌<◌, ℕ, ◌+◌, [], ◌∷◌, length, Option, None, Some, Result, Ok, Err}
use Rattle.f3_rooms.specs.Held.{times}
use Rattle.f3_word_cells.specs.declared.cell.Cell.{Cell}
use Rattle.f3_word_cells.specs.declared.state.State.{State}
use Rattle.f3_word_cells.specs.declared.state.Stop.{Stop}
use Rattle.f3_word_cells.specs.declared.state.Stop.TheVariants as stop
use Rattle.f3_word_cells.specs.States.{own, beneath, cell_blocks, cells_blocks}

-- all but the line and the cells of the activation at work
pub record IsSame (old new : State) : Type 0 where
  pub base : new.base ≡ old.base
  pub here : new.here ≡ old.here
  pub names : new.names ≡ old.names
  pub callers : new.callers ≡ old.callers
  pub statics : new.statics ≡ old.statics
  pub blocks : new.blocks ≡ old.blocks
  pub levels : new.levels ≡ old.levels
  pub room : (new.cells).room ≡ (old.cells).room
  pub beneath : beneath new ≡ beneath old
  pub bottom : old.base ≤ length old.cells.items.items → new.base ≤ length new.cells.items.items

-- a cell of the activation at work was taken from the top
pub record Popped (c : Cell) (old new : State) : Type 0 where
  pub same : IsSame old new
  pub pc : new.pc ≡ old.pc
  pub cells : own old ≡ c ∷ own new
  pub fewer : length old.cells.items.items ≡ length new.cells.items.items + 1
  pub blocks : (q : ℕ) → times q (cells_blocks old.cells.items.items) ≡ times q (cells_blocks new.cells.items.items) + times q (cell_blocks c)

abbrev pub PoppedOr : Option Cell → State → State → Type 0
PoppedOr None old new = (own old ≡ []) × (new ≡ old)
PoppedOr (Some c) old new = Popped c old new

-- a cell was put on top, and the line is this
pub record Pushed (c : Cell) (to : ℕ) (old new : State) : Type 0 where
  pub same : IsSame old new
  pub pc : new.pc ≡ to
  pub cells : own new ≡ c ∷ own old
  pub more : length new.cells.items.items ≡ length old.cells.items.items + 1
  pub blocks : (q : ℕ) → times q (cells_blocks new.cells.items.items) ≡ times q (cells_blocks old.cells.items.items) + times q (cell_blocks c)

-- another line comes, and nothing else changes
pub record Moved (pc : ℕ) (old new : State) : Type 0 where
  pub is : new ≡ record old { pc = pc }

-- So far on from the next line, where there are so many lines; or there is no line, and nothing changes.
abbrev pub WentAhead : ℕ → ℕ → Result ⊤ Stop → State → State → Type 0
WentAhead d total (Ok done) old new = (new ≡ record old { pc = old.pc + 1 + d }) × (old.pc + 1 + d < total)
WentAhead d total (Err stop.Lost) old new = (new ≡ old) × (total ≤ old.pc + 1 + d)
WentAhead d total (Err e) old new = ⊥
