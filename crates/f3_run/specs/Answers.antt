-- What the answer of a run says.
use Rattle.f3_program.specs.declared.program.Program.{Program}
use Rattle.f3_output.specs.Output.{State}
use Rattle.f3_machine_laws.specs.declared.ended.Ended.{Ended}
use Rattle.f3_machine_laws.specs.declared.ended.Ended.TheVariants as ended
use Rattle.f3_machine_laws.specs.RunAnswers.{RunAnswers}
use Rattle.f3_run.specs.declared.end.End.{End}
use Rattle.f3_run.specs.declared.end.End.TheVariants as end
use Rattle.f3_run.specs.declared.end.Limits.{Limits}

-- how a machine ended
abbrev pub ended_as : End → Ended
ended_as end.Done = ended.Done
ended_as (end.Stopped number) = ended.Stopped number
ended_as (end.Error error place) = ended.Failed error place
ended_as end.StepLimit = ended.StepLimit
ended_as end.WriteFault = ended.WriteFault
ended_as end.Memory = ended.Memory

-- what an answer says of a program, of the heap and the instructions that the run may use, and of the output before and now
abbrev pub Answers : Program → Limits → State → State → End → Type 0
Answers p limits old new e = RunAnswers limits.heap_words p limits.steps old new (ended_as e)
