-- What compiling sources answers.
use Rattle.std.specs.Prelude.{◌≡◌, ℕ, List, Result, Ok, Err, String}
use Rattle.std.specs.Global.{Global}
use Rattle.f3_places.specs.declared.source.Source.{Source}
use Rattle.f3_rules.specs.declared.refusal.Refusal.{Refusal}
use Rattle.f3_tree.specs.Tree.{Tree}
use Rattle.f3_lookups.specs.declared.lookup.Lookup.{Lookup}
use Rattle.f3_graph.specs.declared.CheckFault.{CheckFault}
use Rattle.f3_graph.specs.declared.CheckFault.TheVariants.{Refused, Memory}
use Rattle.f3_graph.specs.Order.{IsOrderOf}
use Rattle.f3_graph.specs.Units.{nodes_of}
use Rattle.f3_accepted.specs.Breaks as names
use Rattle.f3_accepted.specs.Accepted.{Accepted}
use Rattle.f3_accepted.specs.Refusals.{First}
use Rattle.f3_program.specs.declared.program.Program.{Program}
use Rattle.f3_elaboration.specs.DeclaredViews.{program_view}
use Rattle.f3_elaboration.specs.Program.{elaborated}
use Rattle.f3_compile.specs.declared.compiled.Compiled.{Compiled}
use Rattle.f3_compile.specs.Compiled.{program_of}
use Rattle.f3_compile.specs.Listings.{IsListing}

-- The sources spell a program that breaks no rule, and this is it with each name replaced by what it means, along an order of
-- its units in which used modules come first.
pub record Means (sources : List Source) (p : Program) : Type 0 where
  pub tree : Tree
  pub accepted : Accepted sources tree
  pub look : ℕ → ℕ → Lookup
  pub order : List ℕ
  pub means : names.Means tree look
  pub ordered : IsOrderOf (nodes_of tree) order
  pub meaning : program_view p ≡ elaborated tree look order

-- A refusal is that of the first break, and the sources are not accepted.
pub record IsRefused (sources : List Source) (refusal : Refusal) : Type 0 where
  pub first : First sources refusal
  pub never : (tree : Tree) → Accepted sources tree → ⊥

-- what `compile` answers
abbrev pub Compiles : List Source → Result Compiled CheckFault → Type 0
Compiles sources (Ok compiled) = Means sources (program_of compiled) × ((refusal : Refusal) → First sources refusal → ⊥)
Compiles sources (Err (Refused refusal)) = IsRefused sources refusal
Compiles sources (Err Memory) = Unit {0}

-- What `check_and_code` answers.
abbrev pub ChecksAndLists : List Source → Result (String Global) CheckFault → Type 0
ChecksAndLists sources (Ok text) = (p : Program) × Means sources p × ((refusal : Refusal) → First sources refusal → ⊥) × IsListing p text
ChecksAndLists sources (Err (Refused refusal)) = IsRefused sources refusal
ChecksAndLists sources (Err Memory) = Unit {0}
