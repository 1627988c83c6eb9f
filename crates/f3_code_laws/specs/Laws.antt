-- The code of a program does what the program means.
use Rattle.std.specs.Prelude.{ℕ, Bool}
use Rattle.f3_program.specs.declared.program.Program as source
use Rattle.f3_meaning_whole.specs.Run.{run_of}
use Rattle.f3_code.specs.Core.{Program}
use Rattle.f3_code.specs.Lower.{lowered_program}
use Rattle.f3_code.specs.Code.{program_code}
use Rattle.f3_code.specs.Run.{after, Does, Behaves}

-- The code of each Core program does what the program means, whatever the heap answers.
abbrev pub Compiles : Type 0
Compiles = (p : Program) (answers : ℕ → Bool) → Behaves p (program_code p) answers

-- The code of the Core of each program does what the program means, whatever the heap answers.
abbrev pub Translates : Type 0
Translates = (p : source.Program) (answers : ℕ → Bool) → Does (after 1000 (lowered_program p) (program_code (lowered_program p)) answers)
    (λ n. run_of p n answers)
