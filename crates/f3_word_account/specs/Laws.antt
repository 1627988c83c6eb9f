-- Laws of what a machine over words takes of its heap.
use Rattle.std.specs.Prelude.{⊤, ◌≡◌, ◌<◌, ◌≤◌, ℕ, ◌+◌, List, [], ◌∷◌, length, reverse, Some, slice_get}
use Rattle.f3_program.specs.declared.program.Program.{Program}
use Rattle.f3_live_blocks.specs.Blocks.{Live, IsLive, words_of}
use Rattle.f3_heap_laws.specs.Account.{r as taken_by, used_by}
use Rattle.f3_code.specs.State as s
use Rattle.f3_cells.specs.Cells.{variables_of}
use Rattle.f3_cell_kinds.specs.Types.{CellType}
use Rattle.f3_cell_kinds.specs.Types as cell
use Rattle.f3_cell_kinds.specs.Holds.{Fits}
use Rattle.f3_cell_kinds.specs.Laws.{site_at}
use Rattle.f3_rooms.specs.Held.{times}
use Rattle.f3_rooms.specs.Forms.{total}
use Rattle.f3_rooms.specs.Rooms.{Rooms, blocks_of}
use Rattle.f3_word_cells.specs.declared.cell.Here.{Here}
use Rattle.f3_word_cells.specs.declared.state.Caller.{Caller}
use Rattle.f3_word_cells.specs.declared.state.State.{State}
use Rattle.f3_word_cells.specs.Areas.{types_of}
use Rattle.f3_word_cells.specs.States.{Stands, statics_of, loose_blocks}
use Rattle.f3_word_account.specs.Owned.{room_blocks, owned, blocks_words, cells_words}

-- what holds of blocks and a state in memory, where these stand for whatever state of a program in whatever rooms
abbrev pub Always : (Program → Live → State → Rooms → s.State → Type 0) → Type 0
Always P = (p : Program) (m : Live) (w : State) (x : Rooms) (t : s.State) → Stands p m w x t → P p m w x t

-- A block is live where the state has it, once, and nowhere else.
pub record AreOwned (m : Live) (w : State) (x : Rooms) : Type 0 where
  pub rooms : blocks_of x ≡ room_blocks w
  pub once : (q : ℕ) → IsLive m q → times q (owned w) ≡ 1
  pub live : (q : ℕ) → 0 < times q (owned w) → IsLive m q

abbrev pub LiveBlocksAreOwned : Type 0
LiveBlocksAreOwned = Always (λ p m w x t. AreOwned m w x)

-- The variables of an activation stand in a block of its level.
pub record HasBlock (p : Program) (m : Live) (w : State) (h : Here) : Type 0 where
  pub start : ℕ
  pub block : ℕ
  pub level : slice_get w.levels.items.items h.level ≡ Some start
  pub stands : slice_get w.blocks.items.items start ≡ Some block
  pub long : total (types_of p) (variables_of p h.procedure) ≤ length (words_of m block)

abbrev pub ActivationsHaveBlocks : Type 0
ActivationsHaveBlocks = Always (λ p m w x t. HasBlock p m w w.here
    × ((k : ℕ) (f : Caller) → slice_get (reverse w.callers.items.items) k ≡ Some f → HasBlock p m w f.here))

-- The words in use are those of the blocks of rooms, by their lengths, and those of the values on the stack.
abbrev pub UsedIsWordsOfBlocks : Type 0
UsedIsWordsOfBlocks = Always (λ p m w x t. used_by m ≡ blocks_words m (room_blocks w) + cells_words p w.cells.items.items)

-- Only these are in use: the block of what lives for the whole run, and that of the variables of the activation.
pub record AreTwo (p : Program) (m : Live) (w : State) (t : s.State) : Type 0 where
  pub block : ℕ
  pub only : w.blocks.items.items ≡ block ∷ []
  pub statics : total (types_of p) (statics_of p) ≤ length (words_of m w.statics)
  pub variables : total (types_of p) (t.here).variables ≤ length (words_of m block)
  pub used : used_by m ≡ taken_by (length (words_of m w.statics)) + taken_by (length (words_of m block))

abbrev pub NothingLeaks : Type 0
NothingLeaks = Always (λ p m w x t. length w.levels.items.items ≤ 1 → loose_blocks w ≡ [] → AreTwo p m w t)

-- ---- what is known of a line before a run

-- cells that hold no values
abbrev pub HoldsNone : CellType → Type 0
HoldsNone (cell.Datum k) = ⊥
HoldsNone (cell.Argument g) = ⊥
HoldsNone (cell.Selector k) = ⊥
HoldsNone x = ⊤

abbrev pub AllHoldNone : List CellType → Type 0
AllHoldNone [] = ⊤
AllHoldNone (x ∷ xs) = HoldsNone x × AllHoldNone xs

-- Where no procedure is active, and such cells are known at the line, no value stands on the stack.
abbrev pub LinesHoldNoValues : Type 0
LinesHoldNoValues = Always (λ p m w x t. Fits p.types.items (site_at p) t → t.frames ≡ [] → AllHoldNone (site_at p t.pc).cells → loose_blocks w ≡ [])
