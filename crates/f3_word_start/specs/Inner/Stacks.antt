-- The stacks of the first state.
use Rattle.std.specs.Prelude.{◌≡◌, ◌≤◌, ◌<◌, ℕ, [], ◌∷◌, None}
use Rattle.f3_program.specs.declared.program.Program.{Program}
use Rattle.f3_word_cells.specs.declared.state.State.{State}
use Rattle.f3_word_start.specs.declared.stacks.Room.{Room}
use Rattle.f3_word_start.specs.declared.stacks.Stacks.{Stacks}

-- Nothing stands on them, and they have room for so much, and for a block and a level.
pub record AreReady (room : Room) (s : Stacks) : Type 0 where
  pub cells : (s.cells.items.items ≡ []) × (room.cells ≤ (s.cells).room)
  pub names : (s.names.items.items ≡ []) × (room.names ≤ (s.names).room)
  pub callers : (s.callers.items.items ≡ []) × (room.callers ≤ (s.callers).room)
  pub blocks : (s.blocks.items.items ≡ []) × (room.blocks ≤ (s.blocks).room) × (0 < (s.blocks).room)
  pub levels : (s.levels.items.items ≡ []) × (room.levels ≤ (s.levels).room) × (0 < (s.levels).room)

-- the state before the first line of a program, with these blocks of variables
pub record IsFirst (p : Program) (whole main : ℕ) (w : State) : Type 0 where
  pub pc : w.pc ≡ 0
  pub cells : w.cells.items.items ≡ []
  pub base : w.base ≡ 0
  pub here : w.here ≡ record { place = p.start; unit = p.main.unit; level = 0; procedure = None; names = record { from = 0; count = 0 }; selected = None }
  pub names : w.names.items.items ≡ []
  pub callers : w.callers.items.items ≡ []
  pub statics : w.statics ≡ whole
  pub blocks : w.blocks.items.items ≡ main ∷ []
  pub levels : w.levels.items.items ≡ 0 ∷ []
