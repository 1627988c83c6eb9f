-- What the run of a program over words answers.
use Rattle.std.specs.Prelude.{◌<◌, ◌⊎◌, ℕ, zero, suc, Bool, Option, None}
use Rattle.f3_program.specs.declared.program.Program.{Program}
use Rattle.f3_live_blocks.specs.Blocks.{Live}
use Rattle.f3_meaning_whole.specs.declared.run_error.RunError.TheVariants.{HeapHasNoRoom}
use Rattle.f3_code.specs.Lower.{lowered_program}
use Rattle.f3_code.specs.State as s
use Rattle.f3_code.specs.Heap.{granted}
use Rattle.f3_code.specs.Run.{after}
use Rattle.f3_heights.specs.Room.{state_after}
use Rattle.f3_machine_laws.specs.declared.ended.Ended.TheVariants as ends
use Rattle.f3_machine_laws.specs.Answers.{AnswersFor, GoesOnAfter}
use Rattle.f3_output.specs.Output as o
use Rattle.f3_word_cells.specs.Scenes.{code_of}
use Rattle.f3_word_machine.specs.Runs.{AnswersSo, Machine, refusing}
use Rattle.f3_word_machine.specs.declared.ended.Ended.{Ended}
use Rattle.f3_word_machine.specs.declared.ended.Ended.TheVariants as end

-- the state to which the machine of a program comes: its first instruction claims storage for the variables of the main program
abbrev pub state_of : Program → (ℕ → Bool) → ℕ → Option s.State
state_of p answers zero = None
state_of p answers (suc k) = state_after 1000 (lowered_program p) (code_of p) answers k

-- the machine of a program with its code
abbrev pub machine_of : Program → Machine
machine_of p = record { course = λ answers k. after 1000 (lowered_program p) (code_of p) answers k; state = state_of p }

-- What the answer says of a program whose machine may take so many instructions, and of the output before and now: where the heap has no room
-- for the variables with which the run begins, its first request is refused. Where memory is wanting, it has been before the first
-- instruction and nothing was printed, or else for a request of the run.
abbrev pub RunsWhole : (First : Type 0) (Full Spent : Live → ℕ → Type 0) → Program → ℕ → o.State → o.State → Ended → Type 0
RunsWhole First Full Spent p steps a b end.Memory = GoesOnAfter ((machine_of p).course granted) 0 a b ⊎ AnswersSo Full Spent p (machine_of p) steps a b end.Memory
RunsWhole First Full Spent p steps a b (end.Failed HeapHasNoRoom place) =
    ((0 < steps) × First × AnswersFor ((machine_of p).course (refusing 0)) 1 a b (ends.Failed HeapHasNoRoom place))
    ⊎ AnswersSo Full Spent p (machine_of p) steps a b (end.Failed HeapHasNoRoom place)
RunsWhole First Full Spent p steps a b e = AnswersSo Full Spent p (machine_of p) steps a b e
