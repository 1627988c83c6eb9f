-- A run that did not begin.
use Rattle.std.proofs.Common.{ℕ, Bool, refl, arith}
use Rattle.f3_program.specs.declared.program.Program.{Program}
use Rattle.f3_code.specs.Lower.{lowered_program}
use Rattle.f3_code.specs.Code.{program_code}
use Rattle.f3_code.specs.Heap.{heap_after}
use Rattle.f3_answers.proofs.Answering.{heap_answers}
use Rattle.f3_meaning_whole.specs.Run.{run_of, output}
use Rattle.f3_output.specs.Output.{State}
use Rattle.f3_output.proofs.Outputs.{wrote_none}
use Rattle.f3_machine_laws.specs.RunAnswers.{Cut}
use Rattle.f3_run.specs.declared.end.End.TheVariants.{Memory}
use Rattle.f3_run.specs.declared.end.Limits.{Limits}
use Rattle.f3_run.specs.Answers.{Answers}

not_begun : (size : ℕ) (p : Program) (answers : ℕ → Bool) (s : State) → Cut size p answers 0 s s
unfolding heap_after
not_begun size p answers s = record {
  so_far = record { goes_on = refl; wrote = wrote_none };
  begins = record { turns = 0; more = output (run_of p 0 answers).out; whole = refl };
}

pub none_yet : (p : Program) (limits : Limits) (s : State) → Answers p limits s s Memory
none_yet p limits s =
    let h = heap_answers limits.heap_words 1000 (lowered_program p) (program_code (lowered_program p)) limits.steps in
    (h.0, h.1, (0, omega arith, not_begun limits.heap_words p h.0 s))
