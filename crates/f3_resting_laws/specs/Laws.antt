-- Laws of what a main program has lent and selects.
use Rattle.std.specs.Prelude.{◌≡◌, ℕ, Bool, false, List, [], Some, slice_get, slice_index_or}
use Rattle.f3_program.specs.declared.program.Program.{Program}
use Rattle.f3_meaning_whole.specs.Act.{Setting}
use Rattle.f3_meaning_whole.specs.Ran.{Event}
use Rattle.f3_code.specs.Code.{program_code}
use Rattle.f3_code.specs.Heap.{heap_step}
use Rattle.f3_code.specs.Lower.{lowered_program}
use Rattle.f3_code.specs.Machine.{act, step}
use Rattle.f3_code.specs.State.{Code, Line, State, Goes, placed}
use Rattle.f3_heights.specs.Room.{state_after}
use Rattle.f3_sorts.specs.Effect.{Sort}
use Rattle.f3_sorts.specs.Program.{program_sorts}
use Rattle.f3_sorts.specs.Sorts.{Fits}
use Rattle.f3_resting_laws.specs.Rests.{LendsNothing, Rests, is_lending}

abbrev pub code_of : Program → Code
code_of p = program_code (lowered_program p)

-- the sorts of the cells at a line of the code of a program
abbrev pub sorts_of : Program → ℕ → List Sort
sorts_of p pc = slice_index_or (program_sorts (lowered_program p)) pc []

-- A line that lends nothing leads from such a state, whose cells are of the sorts that are known there, to such a state.
abbrev pub LinesKeepRest : Type 0
LinesKeepRest = (limit : ℕ) (g : Setting) (p : Program) (s t : State) (l : Line) (out : List Event) → slice_get (code_of p).lines s.pc ≡ Some l
    → is_lending l.act ≡ false → Fits (sorts_of p) s → act limit g (code_of p) l.act l.value (placed l.place s.here) s ≡ Goes out t → Rests s → Rests t

-- So does each step of a program that lends nothing, and each over a heap of a size.
abbrev pub StepsKeepRest : Type 0
StepsKeepRest = (limit : ℕ) (g : Setting) (p : Program) (s t : State) (out : List Event) → LendsNothing (code_of p) → Fits (sorts_of p) s
    → step limit g (code_of p) s ≡ Goes out t → Rests s → Rests t

abbrev pub HeapStepsKeepRest : Type 0
HeapStepsKeepRest = (size limit : ℕ) (g : Setting) (p : Program) (s t : State) (out : List Event) → LendsNothing (code_of p) → Fits (sorts_of p) s
    → heap_step size limit g (code_of p) s ≡ Goes out t → Rests s → Rests t

-- Each state of each run of a program that lends nothing is one, whatever the heap answers.
abbrev pub RunsRest : Type 0
RunsRest = (limit : ℕ) (p : Program) → LendsNothing (code_of p) → (answers : ℕ → Bool) (k : ℕ) (s : State)
    → state_after limit (lowered_program p) (code_of p) answers k ≡ Some s → Rests s
