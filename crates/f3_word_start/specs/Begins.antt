-- How a run begins.
use Rattle.std.specs.Prelude.{◌≡◌, ◌≢◌, ◌≤◌, ◌⊎◌, ℕ, suc, ◌+◌, Bool, true, false, List, [], ◌∷◌, length, None, Some}
use Rattle.std.specs.FinMap.{get as find}
use Rattle.f3_program.specs.declared.program.Program.{Program}
use Rattle.f3_live_blocks.specs.Blocks.{Live, words_of}
use Rattle.f3_heap_laws.specs.Account.{used_by, r as taken_for}
use Rattle.f3_meaning_whole.specs.declared.run_error.RunError.TheVariants.{HeapHasNoRoom}
use Rattle.f3_meaning_whole.specs.Ran.{Event, Entered, ◌>>=◌}
use Rattle.f3_meaning_whole.specs.Act.{claim, enter}
use Rattle.f3_code.specs.CoreRun.{core_here, core_world}
use Rattle.f3_code.specs.Lower.{lowered_program}
use Rattle.f3_code.specs.State as s
use Rattle.f3_code.specs.State.{Next, Goes, Stays, Failed}
use Rattle.f3_code.specs.Machine.{performs, before, run}
use Rattle.f3_code.specs.Run.{start, after}
use Rattle.f3_cells.specs.States.{setting}
use Rattle.f3_heights.specs.Room.{state_after}
use Rattle.f3_rooms.specs.Rooms.{Rooms}
use Rattle.f3_word_cells.specs.declared.state.State.{State}
use Rattle.f3_word_cells.specs.Scenes.{code_of}
use Rattle.f3_word_cells.specs.States.{Stands}
use Rattle.f3_word_start.specs.declared.stacks.Room.{Room}

-- the state in which the main program begins, with the initial values of all variables, where the heap will answer so
abbrev pub first_state : Program → (ℕ → Bool) → s.State
first_state p answers = let q = lowered_program p in
    start q (record { store = record { statics = q.initial; levels = q.main.initial ∷ [] }; answers = answers })

-- the level of the main program begins
abbrev pub first_events : Program → List Event
first_events p = Entered (lowered_program p).main.initial ∷ []

-- the first instruction of a program, where the heap answers so: storage is claimed for the variables of the main program
abbrev pub first : Program → (ℕ → Bool) → Next
first p answers = let q = lowered_program p in
    performs (claim (core_here q) >>= λ done. enter q.main.initial) (core_world q answers) (λ done w. start q w)

-- what the heap answers behind its first answer
abbrev pub further : (ℕ → Bool) → ℕ → Bool
further answers n = answers (suc n)

-- Blocks and a state in memory are the state to which the first instruction leads where the heap does not refuse it, and from which the
-- machine goes on.
pub record Begins (p : Program) (live : Live) (w : State) : Type 0 where
  pub rooms : Rooms
  pub stands : (answers : ℕ → Bool) → Stands p live w rooms (first_state p answers)
  pub goes : (answers : ℕ → Bool) → answers 0 ≡ false → first p answers ≡ Goes (first_events p) (first_state p (further answers))
  pub begins : (answers : ℕ → Bool) → answers 0 ≡ false → state_after 1000 (lowered_program p) (code_of p) answers 0 ≡ Some (first_state p (further answers))
  pub runs : (answers : ℕ → Bool) → answers 0 ≡ false → (k : ℕ) → after 1000 (lowered_program p) (code_of p) answers (suc k)
      ≡ before (first_events p) (run 1000 (setting p) (code_of p) k (first_state p (further answers)))

-- No cell, name or caller stands on the stacks of a state, one block and one level do, and there is room for so much.
pub record IsReady (room : Room) (w : State) : Type 0 where
  pub base : w.base ≡ 0
  pub cells : (w.cells.items.items ≡ []) × (room.cells ≤ (w.cells).room)
  pub names : (w.names.items.items ≡ []) × (room.names ≤ (w.names).room)
  pub callers : (w.callers.items.items ≡ []) × (room.callers ≤ (w.callers).room)
  pub blocks : (length w.blocks.items.items ≡ 1) × (room.blocks ≤ (w.blocks).room)
  pub levels : (length w.levels.items.items ≡ 1) × (room.levels ≤ (w.levels).room)

-- ---- where the heap refuses the first request

-- the run ends so, at the first token of the main program
pub record IsRefused (p : Program) : Type 0 where
  pub stays : (answers : ℕ → Bool) → answers 0 ≡ true → first p answers ≡ Stays [] (Failed HeapHasNoRoom p.start)
  pub ends : (answers : ℕ → Bool) → answers 0 ≡ true → (k : ℕ) → after 1000 (lowered_program p) (code_of p) answers (suc k)
      ≡ record { out = []; halt = Failed HeapHasNoRoom p.start }

-- one block of so many words was taken
pub record HasTaken (m n : Live) (words : ℕ) : Type 0 where
  pub block : ℕ
  pub fresh : find m block ≡ None
  pub long : length (words_of n block) ≡ words
  pub others : (q : ℕ) → q ≢ block → find n q ≡ find m q
  pub used : used_by n ≡ used_by m + taken_for words

-- A heap had no room for the first of two blocks of so many words; or, with that taken, for the second.
abbrev pub LacksRoom : {H R : Type 0} → (H → Live) → (H → R) → (R → R) → (H → ℕ → Bool) → H → ℕ → ℕ → Type 0
LacksRoom {H} blocks kept spent has_room h first second = (has_room h first ≡ false)
    ⊎ ((g : H) × HasTaken (blocks h) (blocks g) first × (kept g ≡ spent (kept h)) × (has_room g second ≡ false))
