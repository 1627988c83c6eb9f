-- What a program means is what its Core does.
use Rattle.std.specs.Prelude.{◌≡◌, ℕ, Bool}
use Rattle.f3_program.specs.declared.program.Program.{Program}
use Rattle.f3_meaning_whole.specs.Run.{run_of}
use Rattle.f3_code.specs.CoreRun.{core_run_of}
use Rattle.f3_code.specs.Lower.{lowered_program}

-- The run of the Core of each program is the program's own: the same events, which make the same stores, and the same end.
abbrev pub Lowers : Type 0
Lowers = (p : Program) (n : ℕ) (answers : ℕ → Bool) → core_run_of (lowered_program p) n answers ≡ run_of p n answers
