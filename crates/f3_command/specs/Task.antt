-- What f3 is asked to do.
use Rattle.std.specs.Prelude.{◌≡◌, ◌≢◌, ℕ, List, codes}
use Rattle.f3_run.specs.declared.end.Limits.{Limits}
use Rattle.f3_command.specs.declared.work.Task.{Task}
use Rattle.f3_command.specs.declared.work.Task.TheVariants.{Check, Names, Code, Run}

-- a subcommand of this name asks for this
abbrev pub IsTask : List ℕ → Task → Type 0
IsTask name Check = name ≡ codes "check"
IsTask name Names = name ≡ codes "names"
IsTask name Code = name ≡ codes "code"
IsTask name (Run limits) = (name ≢ codes "check") × (name ≢ codes "names") × (name ≢ codes "code")

-- where it is a run, this holds of the steps and the heap that it may use
abbrev pub OfRun : Task → (Limits → Type 0) → Type 0
OfRun Check P = Unit {0}
OfRun Names P = Unit {0}
OfRun Code P = Unit {0}
OfRun (Run limits) P = P limits
