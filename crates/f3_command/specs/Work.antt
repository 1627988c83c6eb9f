-- What f3 does with its files.
use Rattle.std.specs.Prelude.{ℕ, List, [], Option, Result, Ok, Err, ◌⊎◌, Contains, String, string_bytes}
use Rattle.std.specs.Global.{Global}
use Rattle.f3_places.specs.declared.source.Source.{Source}
use Rattle.f3_rules.specs.declared.refusal.Refusal.{Refusal}
use Rattle.f3_tree.specs.Tree.{Tree}
use Rattle.f3_graph.specs.declared.CheckFault.{CheckFault}
use Rattle.f3_graph.specs.declared.CheckFault.TheVariants as fault
use Rattle.f3_name_table.specs.Answers as table
use Rattle.f3_program.specs.declared.program.Program.{Program}
use Rattle.f3_output.specs.Output.{State, Wrote, Faulted}
use Rattle.f3_compile.specs.Compiles.{Means, IsRefused}
use Rattle.f3_compile.specs.Listings.{IsListing}
use Rattle.f3_files.specs.Reading.{AreOf}
use Rattle.f3_run.specs.declared.end.End.{End}
use Rattle.f3_run.specs.declared.end.End.TheVariants.{Done, WriteFault, Memory}
use Rattle.f3_run.specs.declared.end.Limits.{Limits}
use Rattle.f3_run.specs.Answers.{Answers}
use Rattle.f3_accepted.specs.Accepted.{Accepted}
use Rattle.f3_accepted.specs.Refusals.{First}
use Rattle.f3_command.specs.declared.report.Outcome.{Outcome}
use Rattle.f3_command.specs.declared.report.Outcome.TheVariants.{Ended, Refused, Unreadable}
use Rattle.f3_command.specs.declared.work.Task.{Task}
use Rattle.f3_command.specs.declared.work.Task.TheVariants as task
use Rattle.f3_command.specs.Report.{Finishes}

-- what becomes of a fault
abbrev pub outcome_of : CheckFault → Outcome
outcome_of (fault.Refused refusal) = Refused refusal
outcome_of fault.Memory = Ended Memory

-- Accepted: the sources spell a program that breaks no rule of the whole language.
pub record AreAccepted (sources : List Source) : Type 0 where
  pub tree : Tree
  pub accepted : Accepted sources tree
  pub never : (refusal : Refusal) → First sources refusal → ⊥

-- the sources are accepted, or refused; or memory is wanting
abbrev pub Checks : List Source → Outcome → Type 0
Checks sources (Ended Done) = AreAccepted sources
Checks sources (Refused refusal) = IsRefused sources refusal
Checks sources (Ended Memory) = Unit {0}
Checks sources outcome = ⊥

-- what the check of the sources answers
abbrev pub Accepts : List Source → Result Unit CheckFault → Type 0
Accepts sources (Ok done) = AreAccepted sources
Accepts sources (Err (fault.Refused refusal)) = IsRefused sources refusal
Accepts sources (Err fault.Memory) = Unit {0}

-- a text is written, or a front of it where the writer refuses
abbrev pub Shown : State → State → List ℕ → End → Type 0
Shown old new text Done = Wrote old new text
Shown old new text WriteFault = Faulted old new text
Shown old new text end = ⊥

-- the table of names is written, or a front of it where the writer refuses; or the sources are refused
abbrev pub Shows : List Source → State → State → Outcome → Type 0
Shows sources old new (Ended Done) = (text : String Global) × table.Answers (Ok text) sources × Wrote old new (string_bytes text)
Shows sources old new (Ended WriteFault) = (text : String Global) × table.Answers (Ok text) sources × Faulted old new (string_bytes text)
Shows sources old new (Refused refusal) = table.Answers (Err (fault.Refused refusal)) sources × Wrote old new []
Shows sources old new (Ended Memory) = Wrote old new []
Shows sources old new outcome = ⊥

-- the text of the code that runs, of accepted sources
abbrev pub IsCode : List Source → String Global → Type 0
IsCode sources text = AreAccepted sources × (p : Program) × Means sources p × IsListing p text

-- that text is written, or a front of it where the writer refuses; or the sources are refused
abbrev pub Lists : List Source → State → State → Outcome → Type 0
Lists sources old new (Ended Done) = (text : String Global) × IsCode sources text × Wrote old new (string_bytes text)
Lists sources old new (Ended WriteFault) = (text : String Global) × IsCode sources text × Faulted old new (string_bytes text)
Lists sources old new (Refused refusal) = IsRefused sources refusal × Wrote old new []
Lists sources old new (Ended Memory) = Wrote old new []
Lists sources old new outcome = ⊥

-- the program that the sources spell answers so, of the heap and the steps that it may use
abbrev pub Ran : List Source → Limits → State → State → End → Type 0
Ran sources limits old new end = AreAccepted sources × (p : Program) × Means sources p × Answers p limits old new end

-- the answers of a run; where memory is wanting it may not have begun; or the sources are refused
abbrev pub Runs : List Source → Limits → State → State → Outcome → Type 0
Runs sources limits old new (Ended Memory) = Wrote old new [] ⊎ Ran sources limits old new Memory
Runs sources limits old new (Ended end) = Ran sources limits old new end
Runs sources limits old new (Refused refusal) = IsRefused sources refusal × Wrote old new []
Runs sources limits old new (Unreadable name) = ⊥

-- What becomes of a task, of the output before and now.
abbrev pub Works : Task → List Source → State → State → Outcome → Type 0
Works task.Check sources old new outcome = Checks sources outcome × Wrote old new []
Works task.Names sources old new outcome = Shows sources old new outcome
Works task.Code sources old new outcome = Lists sources old new outcome
Works (task.Run limits) sources old new outcome = Runs sources limits old new outcome

-- What becomes of a task on files of these names: one of them cannot be read, or memory is wanting to read them, and nothing is
-- written; else the task is done with their sources.
abbrev pub Does : (List ℕ → Option (List ℕ)) → List (List ℕ) → Task → List Source → State → State → Outcome → Type 0
Does contents names task sources old new (Unreadable name) = Contains names name.now × Wrote old new []
Does contents names task sources old new (Ended Memory) =
    Wrote old new [] ⊎ (AreOf contents names sources × Works task sources old new (Ended Memory))
Does contents names task sources old new outcome = AreOf contents names sources × Works task sources old new outcome

-- What a call of f3 does: this becomes of its task, and its line is told with its status.
pub record Performs (contents : List ℕ → Option (List ℕ)) (names : List (List ℕ)) (task : Task) (old new : State)
    (told telling : State) (status : ℕ) : Type 0 where
  pub sources : List Source
  pub outcome : Outcome
  pub done : Does contents names task sources old new outcome
  pub finished : Finishes sources outcome told telling status
