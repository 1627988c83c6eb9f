-- What the program says and does, case by case.
use Rattle.std.proofs.Common.{◌≡◌, ◌≢◌, ◌∙◌, ℕ, true, List, [], Option, None, Some, is_some, ap, refl, subst, inl, inr}
use Rattle.std.specs.Prelude.{Result, Ok, Err, IfErr, IfOk, OnOk, OnErr, option_map}
use Rattle.clap.specs.Faults.{fault_of, is_simple_and_free}
use Rattle.clap.specs.Built.{IsParsedFrom}
use Rattle.clap.specs.Kinds.{FailsBy, HasKind, Kinds}
use Rattle.clap.specs.Simple.{App, HasMatchesOf, app_of, is_simple, subcommand_rows_of, subcommand_of}
use Rattle.clap.specs.Walk.{Text}
use Rattle.clap.specs.declared.error.Error.{Error}
use Rattle.clap.specs.declared.error.kind.ErrorKind.{ErrorKind}
use Rattle.clap.specs.declared.error.kind.ErrorKind.TheVariants.{OutOfMemory, DisplayHelp, DisplayVersion}
use Rattle.clap.specs.declared.parser.matches.ArgMatches.{ArgMatches}
use Rattle.clap.specs.declared.builder.command.Command.{Command}
use Rattle.clap.specs.declared.parser.matches.ArgMatches.TheViews.{out-ArgMatches}
use Rattle.clap.proofs.CallerLemmas.{subcommand_required}
use Rattle.clap.proofs.OnLiterals.{clap_on_literals}
use Rattle.f3_output.specs.Output.{State, Wrote, Faulted}
use Rattle.f3_command_line.specs.Command.{f3_app}
use Rattle.f3_command.specs.Program.{faults_of, asked_of, Refuses, Informs, Says}
use Rattle.f3_command.specs.Report.{Told}
use Rattle.f3_command_line.proofs.CommandLine.{has_no_globals}

f3_is_simple : is_simple f3_app ≡ true
unfolding clap_on_literals
f3_is_simple = refl

f3_is_free : is_simple_and_free f3_app ≡ true
unfolding clap_on_literals
f3_is_free = refl

-- what clap says of the command is said of f3's
asked_so : (app : App) (words : List Text) (m : ArgMatches) → app ≡ f3_app → HasMatchesOf app words m → subcommand_rows_of m ≡ asked_of words
unfolding asked_of
asked_so app words m is has = (has (ap is_simple is ∙ f3_is_simple)).1 ∙ ap (λ (a : App). subcommand_of a words) is

pub fails_so : {T : Type 0} (app : App) (words : List Text) (r : Result T Error) → app ≡ f3_app → (is_simple_and_free app ≡ true → FailsBy (fault_of app words) r) → FailsBy (faults_of words) r
unfolding faults_of
fails_so app words r is fails = subst (λ (a : App). FailsBy (fault_of a words) r) is (fails (ap is_simple_and_free is ∙ f3_is_free))

same_some : {X Y : Type 0} (f : X → Y) (o : Option X) → is_some o ≡ true → is_some (option_map f o) ≡ true
same_some f None e = e
same_some f (Some x) e = refl

-- a parse of f3's command line meets a subcommand
meets : (c : Command) (m : ArgMatches) → app_of c ≡ f3_app → IsParsedFrom c m → is_some (subcommand_rows_of m) ≡ true
meets c m is parsed =
    let plain : (app_of c).top.is_plain ≡ true = ap (λ (a : App). a.top.is_plain) is in
    let required : (app_of c).top.subcommand_required ≡ true = ap (λ (a : App). a.top.subcommand_required) is in
    same_some _ (out-ArgMatches m).subcommand (subcommand_required c m parsed (has_no_globals c plain) required)

pub taken_so : (c : Command) (words : List Text) (r : Result ArgMatches Error) → app_of c ≡ f3_app → IfOk r (IsParsedFrom c) → IfOk r (HasMatchesOf (app_of c) words) → FailsBy (faults_of words) r
    → IfOk r (λ m. (faults_of words ≡ []) × (subcommand_rows_of m ≡ asked_of words) × (is_some (subcommand_rows_of m) ≡ true))
taken_so c words (Ok m) is parsed has fails = (fails, asked_so (app_of c) words m is has, meets c m is parsed)
taken_so c words (Err e) is parsed has fails = tt

pub refused_so : {T : Type 0} (kinds : Kinds) (r : Result T Error) → FailsBy kinds r → IfErr r (HasKind kinds)
refused_so kinds (Ok x) fails = tt
refused_so kinds (Err e) fails = fails

-- a fault that is no help, no version and no want of memory
pub refuses_so : (kind : ErrorKind) {old new told telling : State} {status : ℕ} → kind ≢ OutOfMemory → kind ≢ DisplayHelp → kind ≢ DisplayVersion
    → Refuses old new told telling status → Says kind old new told telling status
refuses_so OutOfMemory memory help version h = absurd (memory refl)
refuses_so DisplayHelp memory help version h = absurd (help refl)
refuses_so DisplayVersion memory help version h = absurd (version refl)
refuses_so kind memory help version h = h

-- a fault that is help or the version
pub informs_so : (kind : ErrorKind) {old new told telling : State} {status : ℕ} → ¬ ((kind ≢ DisplayHelp) × (kind ≢ DisplayVersion))
    → Informs old new told telling status → Says kind old new told telling status
informs_so DisplayHelp asks h = h
informs_so DisplayVersion asks h = h
informs_so kind asks h = absurd (asks ((λ e. cc), λ e. cc))

-- a text was written, or a front of it
pub told_so : {T E : Type 0} {old new : State} {text : List ℕ} (r : Result T E) → OnOk r (Wrote old new text) → OnErr r (Faulted old new text) → Told old new text
told_so (Ok x) all front = inl all
told_so (Err e) all front = inr front
