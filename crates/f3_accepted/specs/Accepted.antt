-- What is accepted.
use Rattle.std.specs.Prelude.{List}
use Rattle.f3_places.specs.declared.source.Source.{Source}
use Rattle.f3_rules.specs.declared.breaks.Break.{Break}
use Rattle.f3_tree.specs.Tree.{Tree}
use Rattle.f3_parse.specs.Spells.{Spells}
use Rattle.f3_graph.specs.declared.UnitOrder.{UnitOrder}
use Rattle.f3_graph.specs.Breaks.{UnitBreaks}
use Rattle.f3_graph.specs.Order.{IsOrder, numbers_of}
use Rattle.f3_names.specs.declared.table.Names.{Names}
use Rattle.f3_names.specs.Answers.{BreaksOfNames}
use Rattle.f3_names.specs.Tables.{AreNames, lookup_at}
use Rattle.f3_types.specs.declared.table.Types.{Types}
use Rattle.f3_types.specs.Breaks.{TypeBreaks}
use Rattle.f3_types.specs.Types.{AreTypes, AreTypesAlong}

-- the breaks of a program in phases 2 to 7
pub data Breaks (t : Tree) (b : Break) : Type 0 where
  of_units : UnitBreaks t b → Breaks t b
  of_names : BreaksOfNames t b → Breaks t b
  of_types : TypeBreaks t b → Breaks t b

-- Accepted: the sources spell this tree, and nothing in it breaks a rule.
pub record Accepted (sources : List Source) (t : Tree) : Type 0 where
  pub spelled : Spells t sources
  pub unbroken : (b : Break) → Breaks t b → ⊥

-- There are sources of which this is accepted, and these are an order of its units, its names and its types.
abbrev pub AreAccepted : Tree → UnitOrder → Names → Types → Type 0
AreAccepted t order names types =
    (sources : List Source) × Accepted sources t × IsOrder t order × AreNames t names × AreTypes t types
    × AreTypesAlong t (lookup_at names) (numbers_of order) types
