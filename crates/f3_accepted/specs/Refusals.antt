-- What is accepted, and what is refused first.
use Rattle.std.specs.Prelude.{◌≡◌, List, Result, Ok, Err, Some}
use Rattle.f3_places.specs.declared.source.Source.{Source}
use Rattle.f3_rules.specs.declared.breaks.Break.{Break}
use Rattle.f3_rules.specs.declared.refusal.Refusal.{Refusal}
use Rattle.f3_rules.specs.Least.{Least}
use Rattle.f3_tree.specs.Tree.{Tree, view}
use Rattle.f3_parse.specs.Spells.{Spells, IsFirstFault}
use Rattle.f3_graph.specs.declared.CheckFault.{CheckFault}
use Rattle.f3_graph.specs.declared.CheckFault.TheVariants.{Refused, Memory}
use Rattle.f3_graph.specs.Order.{IsOrder, IsRefusal, numbers_of}
use Rattle.f3_names.specs.Tables.{AreNames, lookup_at}
use Rattle.f3_types.specs.Types.{AreTypes, AreTypesAlong}
use Rattle.f3_accepted.specs.declared.checked.Checked.{Checked}
use Rattle.f3_accepted.specs.Accepted.{Breaks, Accepted}
use Rattle.f3_accepted.specs.Checked.{program_of, order_of, names_of, types_of}

-- The first break is that of phase 1, where there is one; else the sources spell a program, and it is the least of its breaks.
pub data First (sources : List Source) (refusal : Refusal) : Type 0 where
  of_text : IsFirstFault refusal sources → First sources refusal
  of_program : (t : Tree) (b : Break) → Spells t sources → Least (Some b) (Breaks t) → IsRefusal t.names b refusal → First sources refusal

-- what is said of what is accepted: the sources spell its tree and no other, no rule is broken, and it has an order of the
-- tree's units, its names and its types
pub record IsChecked (checked : Checked) (sources : List Source) : Type 0 where
  pub accepted : Accepted sources (view (program_of checked))
  pub only : (t : Tree) → Spells t sources → t ≡ view (program_of checked)
  pub none_is_first : (refusal : Refusal) → First sources refusal → ⊥
  pub ordered : IsOrder (view (program_of checked)) (order_of checked)
  pub named : AreNames (view (program_of checked)) (names_of checked)
  pub typed : AreTypes (view (program_of checked)) (types_of checked)
  pub along : AreTypesAlong (view (program_of checked)) (lookup_at (names_of checked)) (numbers_of (order_of checked)) (types_of checked)

-- what `check` answers
abbrev pub Checks : Result Checked CheckFault → List Source → Type 0
Checks (Ok checked) sources = IsChecked checked sources
Checks (Err (Refused refusal)) sources = First sources refusal × ((t : Tree) → Accepted sources t → ⊥)
Checks (Err Memory) sources = Unit {0}
