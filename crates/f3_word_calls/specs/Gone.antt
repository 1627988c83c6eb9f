-- Blocks that were given back.
use Rattle.std.specs.Prelude.{◌≡◌, ◌<◌, ◌≤◌, ℕ, None, List, [], length, slice_index_or}
use Rattle.std.specs.FinMap.{get as find}
use Rattle.f3_live_blocks.specs.Blocks.{Live, IsLive, pins_of}
use Rattle.f3_rooms.specs.Held.{times}
use Rattle.f3_word_cells.specs.declared.state.State.{State}
use Rattle.f3_word_cells.specs.States.{cells_blocks, own}
use Rattle.f3_word_cells.specs.Moves.{IsSame}

-- these are gone, and all others as they were
pub record Gone (bs : List ℕ) (m n : Live) : Type 0 where
  pub gone : (q : ℕ) → 0 < times q bs → find n q ≡ None
  pub others : (q : ℕ) → times q bs ≡ 0 → find n q ≡ find m q

-- these are live, none of them is pinned, and each is there once
pub record MayGo (m : Live) (bs : List ℕ) : Type 0 where
  pub once : (q : ℕ) → times q bs ≤ 1
  pub live : (q : ℕ) → 0 < times q bs → IsLive m q
  pub unpinned : (q : ℕ) → 0 < times q bs → pins_of m q ≡ 0

-- of each level its first block: that of this one, or there is none
abbrev pub first_block : List ℕ → List ℕ → ℕ → ℕ
first_block levels blocks level = slice_index_or levels level (length blocks)

-- The cells of the activation at work went, and the blocks of their values.
pub record Cleared (m n : Live) (old new : State) : Type 0 where
  pub same : IsSame old new
  pub pc : new.pc ≡ old.pc
  pub none : own new ≡ []
  pub fewer : length new.cells.items.items ≤ length old.cells.items.items
  pub gone : Gone (cells_blocks (own old)) m n
