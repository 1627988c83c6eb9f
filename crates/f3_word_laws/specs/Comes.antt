-- What lines do one after another.
use Rattle.std.specs.Prelude.{◌≡◌, ℕ, ◌+◌, Bool, List, Some}
use Rattle.f3_program.specs.declared.program.Program.{Program}
use Rattle.f3_meaning_whole.specs.Ran.{Event}
use Rattle.f3_meaning_whole.specs.Run.{output}
use Rattle.f3_code.specs.State.{State}
use Rattle.f3_code.specs.Machine.{before, run}
use Rattle.f3_code.specs.Heap.{with_answers}
use Rattle.f3_heights.specs.Room.{state_run}
use Rattle.f3_cells.specs.States.{setting}
use Rattle.f3_word_cells.specs.Scenes.{code_of}
use Rattle.f3_word_cells.specs.Does.{AreGranted, stream}

-- From one state the machine comes to another by so many instructions, where the heap grants their requests, whatever the answers are that
-- come behind; it prints these bytes, and goes on from there.
pub record Comes (p : Program) (t u : State) (k : ℕ) (bytes : List ℕ) : Type 0 where
  pub out : List Event
  pub given : List Bool
  pub granted : AreGranted given
  pub printed : output out ≡ bytes
  pub leads : (rest : ℕ → Bool) → state_run 1000 (setting p) (code_of p) k (with_answers (stream given rest) t) ≡ Some (with_answers rest u)
  pub comes : (rest : ℕ → Bool) (n : ℕ) → run 1000 (setting p) (code_of p) (k + n) (with_answers (stream given rest) t)
      ≡ before out (run 1000 (setting p) (code_of p) n (with_answers rest u))
