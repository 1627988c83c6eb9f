-- What checking and running sources answers.
use Rattle.std.specs.Prelude.{List, [], Result, Ok, Err}
use Rattle.f3_places.specs.declared.source.Source.{Source}
use Rattle.f3_rules.specs.declared.refusal.Refusal.{Refusal}
use Rattle.f3_graph.specs.declared.CheckFault.{CheckFault}
use Rattle.f3_graph.specs.declared.CheckFault.TheVariants.{Refused, Memory}
use Rattle.f3_accepted.specs.Refusals.{First}
use Rattle.f3_program.specs.declared.program.Program.{Program}
use Rattle.f3_compile.specs.Compiles.{Means, IsRefused}
use Rattle.f3_output.specs.Output.{State, Wrote}
use Rattle.f3_run.specs.declared.end.End.{End}
use Rattle.f3_run.specs.declared.end.Limits.{Limits}
use Rattle.f3_run.specs.Answers.{Answers}

-- What `check_and_run` answers, of the heap and the instructions that the run may use, and of the output before and now: nothing is
-- written where the sources are refused, or memory is wanting before the run.
abbrev pub ChecksAndRuns : List Source → Limits → State → State → Result End CheckFault → Type 0
ChecksAndRuns sources limits old new (Ok end) =
    (p : Program) × Means sources p × ((refusal : Refusal) → First sources refusal → ⊥) × Answers p limits old new end
ChecksAndRuns sources limits old new (Err (Refused refusal)) = IsRefused sources refusal × Wrote old new []
ChecksAndRuns sources limits old new (Err Memory) = Wrote old new []
