-- What f3 says of what became of a call, and its exit status (own rules).
use Rattle.std.specs.Prelude.{◌≡◌, ℕ, List, [], ◌∷◌, ◌++◌, ◌⊎◌, None, Some, codes, decimal}
use Rattle.f3_places.specs.declared.source.Place.{Place}
use Rattle.f3_places.specs.declared.source.Source.{Source}
use Rattle.f3_rules.specs.Line.{file_name, line_of}
use Rattle.f3_meaning_whole.specs.declared.run_error.RunError.{RunError}
use Rattle.f3_meaning_whole.specs.Error.{error_number, error_words}
use Rattle.f3_output.specs.Output.{State, Wrote, Faulted}
use Rattle.f3_run.specs.declared.end.End.TheVariants.{Done, Stopped, Error, StepLimit, WriteFault, Memory}
use Rattle.f3_command.specs.declared.report.Outcome.{Outcome}
use Rattle.f3_command.specs.declared.report.Outcome.TheVariants.{Ended, Refused, Unreadable}

abbrev pub status_of : Outcome → ℕ
status_of (Ended Done) = 0
status_of (Ended (Stopped code)) = 0
status_of (Ended (Error error place)) = 3
status_of (Ended StepLimit) = 4
status_of (Ended WriteFault) = 5
status_of (Ended Memory) = 5
status_of (Refused refusal) = 1
status_of (Unreadable name) = 2

-- file:line:column: error 9: in use by an argument
abbrev pub error_line : List Source → RunError → Place → List ℕ
error_line sources error place =
    file_name sources place.file
    ++ codes ":" ++ decimal place.line
    ++ codes ":" ++ decimal place.column
    ++ codes ": error " ++ decimal (error_number error)
    ++ codes ": " ++ error_words error

-- what is told; nothing where there is nothing to tell
abbrev pub words_of : List Source → Outcome → List ℕ
words_of sources (Ended Done) = []
words_of sources (Ended (Stopped None)) = []
words_of sources (Ended (Stopped (Some code))) = codes "STOP " ++ decimal code
words_of sources (Ended (Error error place)) = error_line sources error place
words_of sources (Ended StepLimit) = codes "step limit"
words_of sources (Ended WriteFault) = codes "write fault"
words_of sources (Ended Memory) = codes "want of memory"
words_of sources (Refused refusal) = line_of sources refusal
words_of sources (Unreadable name) = codes "cannot read " ++ name.now

-- a text with a line feed; no text is no line
abbrev pub as_line : List ℕ → List ℕ
as_line [] = []
as_line (b ∷ bs) = (b ∷ bs) ++ 10 ∷ []

-- the bytes were written, or a front of them where the writer refused
abbrev pub Told : State → State → List ℕ → Type 0
Told old new bytes = Wrote old new bytes ⊎ Faulted old new bytes

-- The line of the outcome is told, and this is its status; or there is a want of memory.
abbrev pub Finishes : List Source → Outcome → State → State → ℕ → Type 0
Finishes sources outcome old new status =
    ((status ≡ status_of outcome) × Told old new (as_line (words_of sources outcome)))
    ⊎ ((status ≡ 5) × Told old new (as_line (codes "want of memory")))
