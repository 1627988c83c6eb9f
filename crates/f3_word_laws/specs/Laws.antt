-- The laws of a machine over words.
use Rattle.std.specs.Prelude.{◌≡◌, ℕ, ◌+◌, Bool, List, [], ◌++◌, Some, slice_get}
use Rattle.f3_places.specs.declared.source.Place.{Place}
use Rattle.f3_program.specs.declared.program.Program.{Program}
use Rattle.f3_live_blocks.specs.Blocks.{Live}
use Rattle.f3_meaning_whole.specs.Formed.{IsWellFormed}
use Rattle.f3_meaning_whole.specs.declared.run_error.RunError.TheVariants.{HeapHasNoRoom}
use Rattle.f3_code.specs.Heap.{granted}
use Rattle.f3_code.specs.Lower.{lowered_program}
use Rattle.f3_code.specs.Run.{after}
use Rattle.f3_code.specs.State as s
use Rattle.f3_code.specs.State.{Line}
use Rattle.f3_heights.specs.Room.{state_after}
use Rattle.f3_cell_kinds.specs.Holds.{Fits}
use Rattle.f3_cell_kinds.specs.Laws.{site_at}
use Rattle.f3_cell_kinds.specs.Sense.{MakesSense}
use Rattle.f3_cell_kinds.specs.Stands as objects
use Rattle.f3_store_kinds.specs.Accords.{Accords}
use Rattle.f3_store_kinds.specs.Typing.{Typing}
use Rattle.f3_rooms.specs.Rooms.{Rooms}
use Rattle.f3_word_cells.specs.declared.state.State.{State}
use Rattle.f3_word_cells.specs.Plain.{IsPlain}
use Rattle.f3_word_cells.specs.Scenes.{code_of}
use Rattle.f3_word_cells.specs.States.{Stands}
use Rattle.f3_word_cells.specs.Does.{IsTold, GoesOn}
use Rattle.f3_word_laws.specs.Comes.{Comes}

-- Objects for which words stand are there.
abbrev pub ObjectsAreThere : Type 0
ObjectsAreThere = (p : Program) (live : Live) (w : State) (x : Rooms) (t : s.State) (g : Typing) → Stands p live w x t → Fits p.types.items (site_at p) t
    → Accords p (site_at p) g t → objects.Stands p (site_at p) t

-- The state in which a program begins, where words stand for it.
abbrev pub StartIsTold : Type 0
StartIsTold = (p : Program) → IsPlain p → IsWellFormed p → MakesSense p → (answers : ℕ → Bool) (t : s.State)
    → state_after 1000 (lowered_program p) (code_of p) answers 0 ≡ Some t → (live : Live) (m : State) (x : Rooms) → Stands p live m x t → IsTold p t

-- A state to which a line leads, where words stand for it.
abbrev pub RunsAreTold : Type 0
RunsAreTold = (p : Program) (t u : s.State) (l : Line) (bytes : List ℕ) → IsTold p t → slice_get (code_of p).lines t.pc ≡ Some l → GoesOn p l t u bytes
    → (live : Live) (m : State) (x : Rooms) → Stands p live m x u → IsTold p u

-- No line leads to the state itself, and one more line leads on.
abbrev pub RunsGoOn : Type 0
RunsGoOn = ((p : Program) (t : s.State) → Comes p t t 0 [])
    × ((p : Program) (t u v : s.State) (l : Line) (k : ℕ) (bytes more : List ℕ) → Comes p t u k bytes → slice_get (code_of p).lines u.pc ≡ Some l
    → GoesOn p l u v more → Comes p t v (k + 1) (bytes ++ more))

-- Where the heap grants all requests, no run of such a program ends for want of room.
abbrev pub GrantedRunsHaveRoom : Type 0
GrantedRunsHaveRoom = (p : Program) → IsPlain p → (k : ℕ) (place : Place) → (after 1000 (lowered_program p) (code_of p) granted k).halt ≡ s.Failed HeapHasNoRoom place → ⊥
