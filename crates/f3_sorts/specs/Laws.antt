-- The laws of sorts.
use Rattle.std.specs.Prelude.{◌≡◌, ℕ, Bool, List, [], length, Some, slice_get, slice_index, slice_index_or}
use Rattle.f3_meaning_whole.specs.Ran.{Event}
use Rattle.f3_meaning_whole.specs.Act.{Setting}
use Rattle.f3_code.specs.Core.{Program}
use Rattle.f3_code.specs.State.{Line, Code, State, Stuck, Goes, Stays}
use Rattle.f3_code.specs.Machine.{step}
use Rattle.f3_code.specs.Code.{program_code}
use Rattle.f3_code.specs.Heap.{heap_step}
use Rattle.f3_heights.specs.Room.{state_after}
use Rattle.f3_heights.specs.Program.{program_heights}
use Rattle.f3_sorts.specs.Effect.{Sort}
use Rattle.f3_sorts.specs.Sorts.{AreSorts, Fits, Finds, LineLacks}
use Rattle.f3_sorts.specs.Program.{program_sorts}

-- Where sorts are those of a code, each step from a state that fits them leads to one that fits them.
abbrev pub StepsFit : Type 0
StepsFit = (limit : ℕ) (g : Setting) (code : Code) (sorts : ℕ → List Sort) → AreSorts sorts code →
    (s t : State) (out : List Event) → Fits sorts s → step limit g code s ≡ Goes out t → Fits sorts t

-- Where sorts are those of a code, in a state that fits them the next instruction finds the cells that it takes, each of its sort.
abbrev pub StepsFind : Type 0
StepsFind = (code : Code) (sorts : ℕ → List Sort) → AreSorts sorts code → (s : State) (l : Line) → Fits sorts s →
    slice_get code.lines s.pc ≡ Some l → Finds l.act s.stack

-- And it is stuck only where there is no line, where a procedure that returns, or looks at its caller, has none, or where a routine
-- is left that none has entered.
abbrev pub StepsLack : Type 0
StepsLack = (limit : ℕ) (g : Setting) (code : Code) (sorts : ℕ → List Sort) → AreSorts sorts code →
    (s : State) (out : List Event) → Fits sorts s → step limit g code s ≡ Stays out Stuck → LineLacks (slice_get code.lines s.pc) s

-- The sorts of the code of each Core program, known before its run, are those of its code: one list for each line.
abbrev pub CodeHasSorts : Type 0
CodeHasSorts = (p : Program) → (length (program_sorts p) ≡ length (program_code p).lines) ×
    AreSorts (λ pc. slice_index_or (program_sorts p) pc []) (program_code p)

-- At each line there are as many as its height says.
abbrev pub SortsHaveHeights : Type 0
SortsHaveHeights = (p : Program) (pc : ℕ) → length (slice_index_or (program_sorts p) pc []) ≡ slice_index (program_heights p) pc

-- In each state of each run of a program, whatever the heap answers, the cells of each activation are of the sorts that its line says.
abbrev pub RunsFit : Type 0
RunsFit = (limit : ℕ) (p : Program) (answers : ℕ → Bool) (k : ℕ) (s : State) → state_after limit p (program_code p) answers k ≡ Some s →
    Fits (λ pc. slice_index_or (program_sorts p) pc []) s

-- The machine over a heap of a size keeps to sorts in the same way.
abbrev pub HeapStepsFit : Type 0
HeapStepsFit = (size limit : ℕ) (g : Setting) (code : Code) (sorts : ℕ → List Sort) → AreSorts sorts code →
    (s t : State) (out : List Event) → Fits sorts s → heap_step size limit g code s ≡ Goes out t → Fits sorts t
