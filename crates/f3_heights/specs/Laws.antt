-- The laws of heights.
use Rattle.std.specs.Prelude.{◌≡◌, ℕ, suc, ◌+◌, ◌*◌, ◌<◌, ◌≤◌, Bool, List, [], length, Some, slice_get, slice_index}
use Rattle.f3_meaning_whole.specs.Ran.{Event, World}
use Rattle.f3_meaning_whole.specs.Act.{Setting}
use Rattle.f3_code.specs.Core.{Procedure, Program}
use Rattle.f3_code.specs.CoreRun.{core_setting}
use Rattle.f3_code.specs.State.{Code, Entry, State, Goes}
use Rattle.f3_code.specs.Machine.{before, step, run}
use Rattle.f3_code.specs.Run.{start, after}
use Rattle.f3_code.specs.Code.{body_code, main_code, program_code}
use Rattle.f3_code.specs.Heap.{heap_step}
use Rattle.f3_heights.specs.Heights.{AreHeights, Fits}
use Rattle.f3_heights.specs.Needs.{AreNeeds}
use Rattle.f3_heights.specs.Program.{program_heights}
use Rattle.f3_heights.specs.Room.{greatest, all_cells, main_need, procedure_need, program_needs, IsWithin, NextWithin, HasRoom, state_after}

-- Where heights are those of a code, each step from a state that fits them leads to one that fits them.
abbrev pub StepsFit : Type 0
StepsFit = (limit : ℕ) (g : Setting) (code : Code) (height : ℕ → ℕ) → AreHeights height code →
    (s t : State) (out : List Event) → Fits height s → step limit g code s ≡ Goes out t → Fits height t

-- The heights of the code of each Core program, known before its run, are those of its code: one for each line.
abbrev pub CodeHasHeights : Type 0
CodeHasHeights = (p : Program) → (length (program_heights p) ≡ length (program_code p).lines) × AreHeights (slice_index (program_heights p)) (program_code p)

-- Where heights and needs are those of a code, each step keeps to what activations need: one that goes on needs as much as before, one that
-- begins what its first line says,
-- and where one ends its caller needs what it did.
abbrev pub StepsKeepRoom : Type 0
StepsKeepRoom = (limit : ℕ) (g : Setting) (code : Code) (height needs : ℕ → ℕ) → AreHeights height code → AreNeeds height needs code →
    (s t : State) (out : List Event) (need : ℕ) (others : List ℕ) → IsWithin height needs need others s → step limit g code s ≡ Goes out t →
    NextWithin limit height needs need others t

-- The needs of the code of each Core program, known before its run, are those of its code: one for each line.
abbrev pub CodeHasNeeds : Type 0
CodeHasNeeds = (p : Program) → (length (program_needs p) ≡ length (program_code p).lines) ×
    AreNeeds (slice_index (program_heights p)) (slice_index (program_needs p)) (program_code p)

-- The lines of the main program and those of a procedure say what these need.
abbrev pub LinesNeed : Type 0
LinesNeed = (p : Program) → ((j : ℕ) → j < length (main_code (length p.routines) p.main) → slice_index (program_needs p) j ≡ main_need p) ×
    ((f : ℕ) (e : Entry) (q : Procedure) → slice_get (program_code p).procedures f ≡ Some e → slice_get p.procedures f ≡ Some q →
    (j : ℕ) → j < length (body_code (length p.routines) q) → slice_index (program_needs p) (e.at + j) ≡ procedure_need p q)

-- A program begins within what its main program needs.
abbrev pub StartsWithin : Type 0
StartsWithin = (p : Program) (w : World) → IsWithin (slice_index (program_heights p)) (slice_index (program_needs p)) (main_need p) [] (start p w)

-- Where activations are within what they need, none has more cells than that, and each has those that the heights say.
abbrev pub WithinHasRoom : Type 0
WithinHasRoom = (code : Code) (height needs : ℕ → ℕ) → AreNeeds height needs code → (need : ℕ) (others : List ℕ) (s : State) →
    IsWithin height needs need others s → HasRoom height needs need others s × Fits height s

-- In each state of each run of a program, whatever the heap answers, no activation has more cells than the procedure needs at whose line it is,
-- or to whose line the routines lead back that it runs.
abbrev pub RunsHaveRoom : Type 0
RunsHaveRoom = (limit : ℕ) (p : Program) (answers : ℕ → Bool) (k : ℕ) (s : State) → state_after limit p (program_code p) answers k ≡ Some s →
    (need : ℕ) × (others : List ℕ) × IsWithin (slice_index (program_heights p)) (slice_index (program_needs p)) need others s
    × HasRoom (slice_index (program_heights p)) (slice_index (program_needs p)) need others s

-- In each state of each run there are no more callers than there may be, and these and the newest activation together have no more
-- cells than if each had the greatest need.
abbrev pub RunsAreBounded : Type 0
RunsAreBounded = (limit : ℕ) (p : Program) (answers : ℕ → Bool) (k : ℕ) (s : State) → state_after limit p (program_code p) answers k ≡ Some s →
    (length s.frames ≤ limit) × (all_cells s ≤ (limit + 1) * greatest (program_needs p))

-- A state after so many instructions is one of the run: this has happened, and from there on the run is that from the state.
abbrev pub StatesAreOfRuns : Type 0
StatesAreOfRuns = (limit : ℕ) (p : Program) (code : Code) (answers : ℕ → Bool) (k : ℕ) (s : State) → state_after limit p code answers k ≡ Some s →
    (out : List Event) × ((j : ℕ) → after limit p code answers (suc (k + j)) ≡ before out (run limit (core_setting p) code j s))

-- The machine over a heap of a size keeps to heights and to what activations need, in the same way.
abbrev pub HeapStepsFit : Type 0
HeapStepsFit = (size limit : ℕ) (g : Setting) (code : Code) (height : ℕ → ℕ) → AreHeights height code →
    (s t : State) (out : List Event) → Fits height s → heap_step size limit g code s ≡ Goes out t → Fits height t

abbrev pub HeapStepsKeepRoom : Type 0
HeapStepsKeepRoom = (size limit : ℕ) (g : Setting) (code : Code) (height needs : ℕ → ℕ) → AreHeights height code → AreNeeds height needs code →
    (s t : State) (out : List Event) (need : ℕ) (others : List ℕ) → IsWithin height needs need others s → heap_step size limit g code s ≡ Goes out t →
    NextWithin limit height needs need others t
