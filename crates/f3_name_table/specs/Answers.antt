-- What `name_table` answers.
use Rattle.std.specs.Prelude.{List, Result, Ok, Err, Some, String}
use Rattle.std.specs.Global.{Global}
use Rattle.std.specs.String.{string_bytes}
use Rattle.f3_places.specs.declared.source.Source.{Source}
use Rattle.f3_rules.specs.declared.breaks.Break.{Break}
use Rattle.f3_rules.specs.declared.refusal.Refusal.{Refusal}
use Rattle.f3_rules.specs.Least.{Least}
use Rattle.f3_tree.specs.Tree.{Tree}
use Rattle.f3_parse.specs.Spells.{Spells, IsFirstFault}
use Rattle.f3_graph.specs.declared.CheckFault.{CheckFault}
use Rattle.f3_graph.specs.declared.CheckFault.TheVariants.{Refused, Memory}
use Rattle.f3_graph.specs.Breaks.{UnitBreaks}
use Rattle.f3_graph.specs.Order.{IsRefusal}
use Rattle.f3_names.specs.Answers.{BreaksOfNames}
use Rattle.f3_name_table.specs.NameTable.{IsNameTable}

-- the breaks of phases 2 to 4
pub data EarlyBreaks (t : Tree) (b : Break) : Type 0 where
  of_units : UnitBreaks t b → EarlyBreaks t b
  of_names : BreaksOfNames t b → EarlyBreaks t b

-- The first break of phases 1 to 4.
pub data FirstOfNames (sources : List Source) (refusal : Refusal) : Type 0 where
  of_text : IsFirstFault refusal sources → FirstOfNames sources refusal
  of_program : (t : Tree) (b : Break) → Spells t sources → Least (Some b) (EarlyBreaks t) → IsRefusal t.names b refusal → FirstOfNames sources refusal

-- the sources spell a program that breaks no rule of phases 1 to 4, and this is its text
pub record Shows (sources : List Source) (text : String Global) : Type 0 where
  pub tree : Tree
  pub spelled : Spells tree sources
  pub unbroken : (b : Break) → EarlyBreaks tree b → ⊥
  pub shown : IsNameTable tree (string_bytes text)

abbrev pub Answers : Result (String Global) CheckFault → List Source → Type 0
Answers (Ok text) sources = Shows sources text × ((refusal : Refusal) → FirstOfNames sources refusal → ⊥)
Answers (Err (Refused refusal)) sources = FirstOfNames sources refusal × ((text : String Global) → Shows sources text → ⊥)
Answers (Err Memory) sources = Unit {0}
