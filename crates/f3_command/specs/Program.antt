-- What the program does with the words of its command line.
use Rattle.std.specs.Prelude.{◌≡◌, ◌⊎◌, ◌&&◌, ◌^◌, ℕ, List, [], Option, None, Some, codes, length, nat_lt, unwrap_or, if◌then◌else◌}
use Rattle.std.specs.Str.{all_ascii_digits, bytes_eq}
use Rattle.std.specs.Str.Parse.{digits_value, without_leading_plus}
use Rattle.clap.specs.Faults.{fault_of}
use Rattle.clap.specs.Kinds.{IsAmong, Kinds}
use Rattle.clap.specs.Simple.{subcommand_of}
use Rattle.clap.specs.Walk.{Row, Text, all_of, one_of}
use Rattle.clap.specs.declared.error.kind.ErrorKind.{ErrorKind}
use Rattle.clap.specs.declared.error.kind.ErrorKind.TheVariants.{OutOfMemory, DisplayHelp, DisplayVersion}
use Rattle.f3_output.specs.Output.{State}
use Rattle.f3_command_line.specs.Command.{f3_app}
use Rattle.f3_run.specs.declared.end.End.{End}
use Rattle.f3_command.specs.declared.report.Outcome.TheVariants.{Ended}
use Rattle.f3_command.specs.declared.work.Task.{Task}
use Rattle.f3_command.specs.declared.work.Task.TheVariants.{Check, Names, Code, Run}
use Rattle.f3_command.specs.Report.{Told, Finishes, as_line}
use Rattle.f3_command.specs.Work.{Shown, Performs}

-- the faults of the words, the program's own name first: none where they are taken (clap)
unfoldable pub faults_of : List Text → Kinds
faults_of words = fault_of f3_app words

-- the name of the subcommand that the words ask for, and the values that they give its arguments (clap)
unfoldable pub asked_of : List Text → Option (Text × List Row)
asked_of words = subcommand_of f3_app words

-- the values of FILE
abbrev pub files_of : List Row → List Text
files_of rows = unwrap_or (all_of (codes "FILE") rows) []

-- the number of decimal digits, which a plus may precede, where it has 64 bits at most; else 0
abbrev pub number_in : Text → ℕ
number_in text =
    let digits = without_leading_plus text in
    if nat_lt 0 (length digits) && all_ascii_digits digits && nat_lt (digits_value 10 digits) (2 ^ 64)
    then digits_value 10 digits else 0

-- the number that an option gives; 0 where it has no value
abbrev pub number_of : Option Text → ℕ
number_of None = 0
number_of (Some text) = number_in text

-- the task of a subcommand of this name, with these values
abbrev pub task_of : Text → List Row → Task
task_of name rows =
    if bytes_eq name (codes "check") then Check
    else if bytes_eq name (codes "names") then Names
    else if bytes_eq name (codes "code") then Code
    else Run (record { steps = number_of (one_of (codes "steps") rows); heap_words = number_of (one_of (codes "heap") rows) })

-- Memory is wanting: that is told, and nothing is written.
pub record WantsMemory (old new told telling : State) (status : ℕ) : Type 0 where
  pub as_before : new ≡ old
  pub status_is : status ≡ 5
  pub words : Told told telling (as_line (codes "want of memory"))

-- The words are refused: a text tells so, and nothing is written.
pub record Refuses (old new told telling : State) (status : ℕ) : Type 0 where
  pub as_before : new ≡ old
  pub status_is : status ≡ 2
  pub text : Text
  pub words : Told told telling text

-- The words ask for help or the version: a text of it is written, and nothing is told but a fault of the writer.
pub record Informs (old new told telling : State) (status : ℕ) : Type 0 where
  pub text : Text
  pub end : End
  pub shown : Shown old new text end
  pub finished : Finishes [] (Ended end) told telling status

-- what is said of a fault of the words
abbrev pub Says : ErrorKind → State → State → State → State → ℕ → Type 0
Says OutOfMemory old new told telling status = WantsMemory old new told telling status
Says DisplayHelp old new told telling status = Informs old new told telling status
Says DisplayVersion old new told telling status = Informs old new told telling status
Says kind old new told telling status = Refuses old new told telling status

-- what is asked for is performed on the files that are named; where nothing is, nothing is written or told, and the status is 2
abbrev pub Acts : (List ℕ → Option (List ℕ)) → Option (Text × List Row) → State → State → State → State → ℕ → Type 0
Acts contents None old new told telling status = (new ≡ old) × (telling ≡ told) × (status ≡ 2)
Acts contents (Some asked) old new told telling status =
    Performs contents (files_of asked.1) (task_of asked.0 asked.1) old new told telling status

-- What the program does with its words: where they have no fault, it performs the task that they ask for; where they have
-- some, it says what clap names of them; or memory is wanting.
abbrev pub Obeys : (List ℕ → Option (List ℕ)) → List Text → State → State → State → State → ℕ → Type 0
Obeys contents words old new told telling status =
    ((faults_of words ≡ []) × (name : Text) × (rows : List Row) × (asked_of words ≡ Some (name, rows))
    × Performs contents (files_of rows) (task_of name rows) old new told telling status)
    ⊎ ((kind : ErrorKind) × IsAmong kind (faults_of words) × Says kind old new told telling status)
    ⊎ WantsMemory old new told telling status
