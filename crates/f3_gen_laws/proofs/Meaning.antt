-- What was emitted does what the program means, where the code of its Core does.
use Rattle.std.proofs.Common.{◌≡◌, ℕ, Bool, subst, sym, Result, Ok, Err, IfOk}
use Rattle.std.specs.declared.alloc.AllocError.{AllocError}
use Rattle.f3_program.specs.declared.program.Program.{Program}
use Rattle.f3_meaning_whole.specs.Run.{run_of}
use Rattle.f3_code.specs.Lower.{lowered_program}
use Rattle.f3_code.specs.Code.{program_code}
use Rattle.f3_code.specs.Run.{Does, after}
use Rattle.f3_gen_values.specs.declared.emission.Emission.{Emission}
use Rattle.f3_gen_values.specs.Emission.{code_in}

abbrev pub DoesAll : Program → Emission → Type 0
DoesAll p e = (answers : ℕ → Bool) → Does (after 1000 (lowered_program p) (code_in p e) answers) (λ n. run_of p n answers)

pub means : ((p : Program) (answers : ℕ → Bool) → Does (after 1000 (lowered_program p) (program_code (lowered_program p)) answers) (λ n. run_of p n answers))
    → (p : Program) (r : Result Emission AllocError) → IfOk r (λ e. code_in p e ≡ program_code (lowered_program p)) → IfOk r (λ e. DoesAll p e)
means law p (Ok e) same = λ answers. subst (λ k. Does (after 1000 (lowered_program p) k answers) (λ n. run_of p n answers)) (sym same) (law p answers)
means law p (Err f) same = tt
