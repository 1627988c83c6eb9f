-- Words of the command line, as they are read.
use Rattle.std.proofs.Common.{◌≡◌, List, [], ◌∷◌, Option, None, Some, codes, refl}
use Rattle.clap.specs.Walk.{Row, Text}
use Rattle.clap.specs.declared.error.kind.ErrorKind.TheVariants as kind
use Rattle.clap.proofs.OnLiterals.{clap_on_literals}
use Rattle.f3_command.specs.declared.work.Task.{Task}
use Rattle.f3_command.specs.declared.work.Task.TheVariants as task
use Rattle.f3_command.specs.Program.{faults_of, asked_of, files_of, task_of}

abbrev to_do : Option (Text × List Row) → Option (Task × List Text)
to_do None = None
to_do (Some asked) = Some (task_of asked.0 asked.1, files_of asked.1)

abbrev run_words : List Text
run_words = codes "f3" ∷ codes "run" ∷ codes "--steps" ∷ codes "5" ∷ codes "a.f90" ∷ codes "b.f90" ∷ []

runs : (faults_of run_words ≡ [])
    × (to_do (asked_of run_words)
    ≡ Some (task.Run (record { steps = 5; heap_words = 1048576 }), codes "a.f90" ∷ codes "b.f90" ∷ []))
unfolding clap_on_literals faults_of asked_of
runs = (refl, refl)

abbrev check_words : List Text
check_words = codes "f3" ∷ codes "check" ∷ codes "a.f90" ∷ []

checks : (faults_of check_words ≡ [])
    × (to_do (asked_of check_words) ≡ Some (task.Check, codes "a.f90" ∷ []))
unfolding clap_on_literals faults_of asked_of
checks = (refl, refl)

no_words : faults_of (codes "f3" ∷ []) ≡ kind.MissingSubcommand ∷ []
unfolding clap_on_literals faults_of
no_words = refl

helps : faults_of (codes "f3" ∷ codes "help" ∷ []) ≡ kind.DisplayHelp ∷ kind.InvalidSubcommand ∷ []
unfolding clap_on_literals faults_of
helps = refl

versions : faults_of (codes "f3" ∷ codes "--version" ∷ []) ≡ kind.DisplayVersion ∷ []
unfolding clap_on_literals faults_of
versions = refl

no_file : faults_of (codes "f3" ∷ codes "run" ∷ []) ≡ kind.MissingRequiredArgument ∷ []
unfolding clap_on_literals faults_of
no_file = refl

no_number : faults_of (codes "f3" ∷ codes "run" ∷ codes "--steps" ∷ codes "x" ∷ codes "a" ∷ []) ≡ kind.ValueValidation ∷ []
unfolding clap_on_literals faults_of
no_number = refl
