-- How an ASSOCIATE begins in memory.
use Rattle.std.specs.Prelude.{◌≡◌, ℕ, ◌+◌, List, [], ◌∷◌, ◌++◌, length}
use Rattle.f3_live_blocks.specs.Blocks.{Live}
use Rattle.f3_code.specs.declared.instruction.Instruction.{Instruction}
use Rattle.f3_word_cells.specs.declared.cell.Cell.{Cell}
use Rattle.f3_word_cells.specs.declared.cell.Cell.TheVariants as c
use Rattle.f3_word_cells.specs.declared.cell.Here.{Here}
use Rattle.f3_word_cells.specs.declared.state.Name.{Name}
use Rattle.f3_word_cells.specs.declared.state.State.{State}
use Rattle.f3_word_cells.specs.States.{cells_blocks}
use Rattle.f3_word_calls.specs.Doing.{IsAtSome}
use Rattle.f3_word_associates.specs.Names.{AreNamed}

-- a state at a line with an instruction of some program, over some blocks
abbrev pub IsAtIn : Instruction → State → Type 0
IsAtIn x w = (live : Live) × IsAtSome x live w

-- statements may name so many more
abbrev pub naming : ℕ → Here → Here
naming k h = record h { names = record { from = h.names.from; count = h.names.count + k } }

-- So many cells are the selectors and went; they have names, and the blocks of their values are a level. What was around it is kept.
pub record Begun (count : ℕ) (old new : State) : Type 0 where
  pub left : List Cell
  pub selectors : List Cell
  pub split : old.cells.items.items ≡ left ++ selectors
  pub many : length selectors ≡ count
  pub added : List Name
  pub named : AreNamed selectors added
  pub names : new.names.items.items ≡ old.names.items.items ++ added
  pub cells : new.cells.items.items ≡ (left ++ c.Level (length old.levels.items.items) (record { from = length old.names.items.items; count = count }) ∷ [])
      ++ c.Outside old.here ∷ []
  pub blocks : new.blocks.items.items ≡ old.blocks.items.items ++ cells_blocks selectors
  pub levels : new.levels.items.items ≡ old.levels.items.items ++ length old.blocks.items.items ∷ []
  pub here : new.here ≡ naming count old.here
  pub pc : new.pc ≡ old.pc + 1
  pub base : new.base ≡ old.base
  pub callers : new.callers ≡ old.callers
  pub statics : new.statics ≡ old.statics
