-- The machine over the greatest heap.
use Rattle.std.specs.Prelude.{◌≡◌, ℕ, zero, suc, ◌-◌, ◌^◌, Bool, List, [], ◌∷◌, Some}
use Rattle.f3_meaning_whole.specs.Act.{Setting}
use Rattle.f3_code.specs.Core.{Program}
use Rattle.f3_code.specs.CoreRun.{core_setting}
use Rattle.f3_code.specs.State.{Code, State}
use Rattle.f3_code.specs.Machine.{run}
use Rattle.f3_code.specs.Run.{after}
use Rattle.f3_code.specs.Heap.{granted, heap_after, heap_run, with_answers}
use Rattle.f3_courses.specs.Courses.{Tells, at_line, state_by}
use Rattle.f3_courses.specs.Runs.{main_of}
use Rattle.f3_heights.specs.Room.{state_after, state_run}

-- so many words that the next is 0: no sum of words is more, so such a heap is never full
abbrev pub greatest : ℕ
greatest = 2 ^ 64 - 1

-- From a state on, it is the machine whose requests are all granted.
abbrev pub RunsAreGranted : Type 0
RunsAreGranted = (g : Setting) (code : Code) (k : ℕ) (s : State) → heap_run greatest 1000 g code k s ≡ run 1000 g code k (with_answers granted s)

-- So it is from the first instruction on.
abbrev pub ProgramsAreGranted : Type 0
ProgramsAreGranted = (p : Program) (code : Code) (k : ℕ) → heap_after greatest 1000 p code k ≡ after 1000 p code granted k

-- It comes to the same states.
abbrev pub StatesAreGranted : Type 0
StatesAreGranted = (g : Setting) (code : Code) (n : ℕ) (from to : State) → state_by greatest g code n from ≡ Some to
    → state_run 1000 g code n (with_answers granted from) ≡ Some (with_answers granted to)

-- ---- states of a run

-- these answers of a heap, and behind them others
abbrev pub stream : List Bool → (ℕ → Bool) → ℕ → Bool
stream [] rest n = rest n
stream (b ∷ bs) rest zero = b
stream (b ∷ bs) rest (suc n) = stream bs rest n

-- A state of a run with at most 1000 active procedures: the machine comes there by so many lines, where the heap gives some answers,
-- whatever those are that come behind.
pub record IsOfRun (p : Program) (code : Code) (t : State) : Type 0 where
  pub lines : ℕ
  pub given : List Bool
  pub comes : (rest : ℕ → Bool) → state_after 1000 p code (stream given rest) lines ≡ Some (with_answers rest t)

-- The state behind the first instruction, where the main program begins at its first line.
abbrev pub StartIsOfTheRun : Type 0
StartIsOfTheRun = (p : Program) (code : Code)
    → (state_after 1000 p code granted 0 ≡ Some (at_line (main_of p) 0 [])) × IsOfRun p code (at_line (main_of p) 0 [])

-- Where the machine over the greatest heap comes from a state of a run, that is one.
abbrev pub StatesFollow : Type 0
StatesFollow = (p : Program) (code : Code) (n : ℕ) (from to : State) → IsOfRun p code from → state_by greatest (core_setting p) code n from ≡ Some to
    → IsOfRun p code to

abbrev pub ToldStatesFollow : Type 0
ToldStatesFollow = (p : Program) (code : Code) (n : ℕ) (from to : State) (bytes : List ℕ) → IsOfRun p code from
    → Tells greatest (core_setting p) code n from to bytes → IsOfRun p code to
