-- The laws of how much room stacks want.
use Rattle.std.specs.Prelude.{◌≡◌, ◌≤◌, ℕ, ◌+◌, ◌*◌, Bool, List, length, Some, slice_get}
use Rattle.f3_program.specs.declared.program.Program.{Program}
use Rattle.f3_code.specs.declared.instruction.Instruction.TheVariants as i
use Rattle.f3_code.specs.Lower.{lowered_program}
use Rattle.f3_code.specs.State.{Entry, Line, State}
use Rattle.f3_code.specs.Heap.{with_answers}
use Rattle.f3_heights.specs.Room.{all_cells, greatest, state_after}
use Rattle.f3_sizes.specs.declared.answer.Needs.{Needs}
use Rattle.f3_sizes.specs.Needs.{AreNeverDeeper}
use Rattle.f3_live_blocks.specs.Blocks.{Live}
use Rattle.f3_rooms.specs.Rooms.{Rooms}
use Rattle.f3_word_cells.specs.declared.state.State as word
use Rattle.f3_word_cells.specs.Scenes.{code_of}
use Rattle.f3_word_cells.specs.States.{Stands}
use Rattle.f3_word_cells.specs.Does.{stream, IsTold, GoesOn}
use Rattle.f3_word_needs.specs.Counts.{all_levels, all_names, all_selectors, kept_names}
use Rattle.f3_word_needs.specs.Names.{most_dummies, most_names, most_open}
use Rattle.f3_word_needs.specs.Room.{HasRoom}

-- A program begins in a state with room, whatever the heap answers after it gave some answers.
abbrev pub StartHasRoom : Type 0
StartHasRoom = (p : Program) (t : State) (given : List Bool) →
    ((rest : ℕ → Bool) → state_after 1000 (lowered_program p) (code_of p) (stream given rest) 0 ≡ Some (with_answers rest t)) → HasRoom p t

-- From such a state each line leads to another, where both are states of which the kinds are told.
abbrev pub LinesKeepRoom : Type 0
LinesKeepRoom = (p : Program) (t u : State) (l : Line) (bytes : List ℕ) → IsTold p t → slice_get (code_of p).lines t.pc ≡ Some l →
    GoesOn p l t u bytes → IsTold p u → HasRoom p t → HasRoom p u

-- In such a state there are no more callers than there may be.
abbrev pub CallersAreFew : Type 0
CallersAreFew = (p : Program) (t : State) → HasRoom p t → length t.frames ≤ 1000

-- All activations together have no more cells than what was answered for the main program, and the greatest answer for a procedure a
-- thousand times.
abbrev pub CellsAreFew : Type 0
CellsAreFew = (p : Program) (n : Needs) (t : State) → AreNeverDeeper (lowered_program p) n → HasRoom p t →
    all_cells t ≤ n.main + 1000 * greatest n.procedures.items

-- They have no more names than if each had most.
abbrev pub NamesAreFew : Type 0
NamesAreFew = (p : Program) (t : State) → IsTold p t → HasRoom p t → all_names t ≤ 1001 * most_names (lowered_program p)

-- And the ASSOCIATEs that are open have no more names than if each activation had most of those.
abbrev pub SelectorsAreFew : Type 0
SelectorsAreFew = (p : Program) (t : State) → IsTold p t → HasRoom p t → all_selectors t ≤ 1001 * most_open (lowered_program p)

-- No procedure has more dummies than the one that has most.
abbrev pub DummiesAreFew : Type 0
DummiesAreFew = (p : Program) (f : ℕ) (e : Entry) → slice_get (code_of p).procedures f ≡ Some e → length e.dummies ≤ most_dummies (lowered_program p).procedures

-- There are two levels for each caller, one for the main program, and no more than one for each cell.
abbrev pub LevelsAreFew : Type 0
LevelsAreFew = (p : Program) (t : State) → HasRoom p t → all_levels t ≤ 2001 + all_cells t

-- Where blocks and a state in memory stand for a state, there are as many cells, callers and levels in memory, and as many names that its
-- cells keep for ASSOCIATEs.
abbrev pub MemoryIsAsLarge : Type 0
MemoryIsAsLarge = (p : Program) (live : Live) (w : word.State) (x : Rooms) (t : State) → Stands p live w x t →
    (length w.cells.items.items ≡ all_cells t) × (length w.callers.items.items ≡ length t.frames) × (length w.levels.items.items ≡ all_levels t)
    × (kept_names w.cells.items.items ≡ all_selectors t)

-- There are no more names in memory than dummies of the procedures that were called, and names that its cells keep for ASSOCIATEs.
abbrev pub NamesAreKept : Type 0
NamesAreKept = (p : Program) (live : Live) (w : word.State) (x : Rooms) (t : State) → Stands p live w x t →
    length w.names.items.items ≤ length t.frames * most_dummies (lowered_program p).procedures + all_selectors t

-- And no more blocks of rooms than these, for values that are held, and one for each activation, for its variables.
abbrev pub BlocksAreFew : Type 0
BlocksAreFew = (p : Program) (live : Live) (w : word.State) (x : Rooms) (t : State) → Stands p live w x t →
    length w.blocks.items.items ≤ 1 + length t.frames + (length t.frames * most_dummies (lowered_program p).procedures + all_selectors t)

-- A procedure is called with an argument for each dummy, and so with no more than these.
abbrev pub CallsAreFew : Type 0
CallsAreFew = (p : Program) (t : State) (l : Line) (f k : ℕ) → IsTold p t → slice_get (code_of p).lines t.pc ≡ Some l → l.act ≡ i.Call f k →
    k ≤ most_dummies (lowered_program p).procedures

-- An ASSOCIATE has no more names than may be open.
abbrev pub AssociatesAreFew : Type 0
AssociatesAreFew = (p : Program) (t : State) (l : Line) (n : ℕ) → IsTold p t → slice_get (code_of p).lines t.pc ≡ Some l → l.act ≡ i.Associate n →
    n ≤ most_open (lowered_program p)
