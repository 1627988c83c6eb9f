-- What the machine answers, the program means.
use Rattle.std.specs.Prelude.{◌≡◌, ◌≢◌, ◌≤◌, ℕ, Bool}
use Rattle.f3_program.specs.declared.program.Program.{Program}
use Rattle.f3_meaning_whole.specs.Run.{run_of, ending, Unfinished}
use Rattle.f3_code.specs.Lower.{lowered_program}
use Rattle.f3_code.specs.Code.{program_code}
use Rattle.f3_cells.specs.declared.scene.Scene.{Scene}
use Rattle.f3_cells.specs.States.{code_of}
use Rattle.f3_output.specs.Output.{State}
use Rattle.f3_machine_laws.specs.declared.ended.Ended.{Ended}
use Rattle.f3_machine_laws.specs.declared.ended.Ended.TheVariants.{StepLimit}
use Rattle.f3_machine_laws.specs.Answers.{Answers}
use Rattle.f3_machine_laws.specs.RunAnswers.{HeapSays, RunAnswers}

-- where the code is that of the program's Core
abbrev pub AnswersMean : Type 0
AnswersMean = (size : ℕ) (x : Scene) (steps : ℕ) (old new : State) (e : Ended) → code_of x ≡ program_code (lowered_program x.program.now)
    → Answers size x steps old new e → RunAnswers size x.program.now steps old new e

-- A program that ends for some bound on turns of loops and these answers of the heap is not cut short where the machine may
-- take enough instructions, and the heap gives these answers meanwhile.
abbrev pub LimitsSuffice : Type 0
LimitsSuffice = (size : ℕ) (p : Program) (turns : ℕ) (answers : ℕ → Bool) → ending (run_of p turns answers).end ≢ Unfinished
    → (enough : ℕ) × ((steps : ℕ) (old new : State) → enough ≤ steps → HeapSays size p steps answers → RunAnswers size p steps old new StepLimit → ⊥)
