-- What the words ask for.
use Rattle.std.proofs.Common.{◌≡◌, ℕ, List, [], Option, None, Some, Bor, map, ap₂, refl}
use Rattle.std.specs.Prelude.{option_map, unwrap_or}
use Rattle.clap.specs.Matches.{subcommand_name_of}
use Rattle.clap.specs.Simple.{subcommand_rows_of}
use Rattle.clap.specs.Walk.{Row, Text}
use Rattle.clap.specs.declared.parser.matches.ArgMatches.{ArgMatches}
use Rattle.clap.specs.declared.parser.matches.ArgMatches.TheViews.{out-ArgMatches}
use Rattle.f3_output.specs.Output.{State}
use Rattle.f3_command.specs.declared.work.Task.{Task}
use Rattle.f3_command.specs.Program.{Acts, files_of, task_of}
use Rattle.f3_command.specs.Work.{Performs}

abbrev both : {X : Type 0} → (X → Text) → (X → List Row) → X → Text × List Row
both f g x = (f x, g x)

paired : {X : Type 0} (f : X → Text) (g : X → List Row) (o : Option X) (name : Text) (rows : List Row) → Some name ≡ option_map f o
    → Some rows ≡ option_map (λ (p : Text × List Row). p.1) (option_map (both f g) o) → option_map (both f g) o ≡ Some (name, rows)
paired f g None name rows named valued = absurd cc
paired f g (Some x) name rows named valued =
    let same_name : f x ≡ name = cc in
    let same_rows : g x ≡ rows = cc in
    let both_of : Text → List Row → Option (Text × List Row) = λ n r. Some (n, r) in
    ap₂ both_of same_name same_rows

-- the name of the subcommand and what was found for it
pub asked_is : (m : ArgMatches) (name : Text) (rows : List Row) → Some name ≡ subcommand_name_of m → Some rows ≡ option_map (λ (p : Text × List Row). p.1) (subcommand_rows_of m)
    → subcommand_rows_of m ≡ Some (name, rows)
asked_is m name rows named valued = paired _ _ (out-ArgMatches m).subcommand name rows named valued

abbrev pub texts : Bor (List (Bor Text)) → List Text
texts list = map (λ (text : Bor Text). text.now) list.now

-- the values of an argument, or none
pub values_so : (given : Bor (List (Bor Text))) (found : Option (Bor (List (Bor Text)))) (none : Bor (List (Bor Text))) (values : Option (List Text)) → given ≡ unwrap_or found none
    → none.now ≡ [] → option_map texts found ≡ values → texts given ≡ unwrap_or values []
values_so given None none values is empty found = rw (is, ← found, empty) refl
values_so given (Some list) none values is empty found = rw (is, ← found) refl

-- the task is performed on the files
pub acts_so : (contents : List ℕ → Option (List ℕ)) (asked : Option (Text × List Row)) (name : Text) (rows : List Row) (names : List Text) (task : Task)
    (old new told telling : State) (status : ℕ) → asked ≡ Some (name, rows) → names ≡ files_of rows → task ≡ task_of name rows
    → Performs contents names task old new told telling status → Acts contents asked old new told telling status
acts_so contents asked name rows names task old new told telling status is named tasked performed = rw is (rw (named, tasked) at performed)
