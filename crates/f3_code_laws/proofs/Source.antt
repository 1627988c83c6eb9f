-- The code of the Core of a program follows the program.
use Rattle.std.proofs.Common.{ℕ, Bool, subst}
use Rattle.std.proofs.Math.Path.{fun_ext}
use Rattle.f3_program.specs.declared.program.Program.{Program}
use Rattle.f3_meaning_whole.specs.Run.{run_of}
use Rattle.f3_code.specs.Lower.{lowered_program}
use Rattle.f3_lower_laws.proofs.Whole.{lowers}
use Rattle.f3_code.specs.Code.{program_code}
use Rattle.f3_code.specs.Run.{after, Does}
use Rattle.f3_code_laws.proofs.Whole.{behaves}

pub translated : (p : Program) (answers : ℕ → Bool) → Does (after 1000 (lowered_program p) (program_code (lowered_program p)) answers) (λ n. run_of p n answers)
translated p answers = subst (Does (after 1000 (lowered_program p) (program_code (lowered_program p)) answers)) (fun_ext (λ n. lowers p n answers))
    (behaves (lowered_program p) answers)
