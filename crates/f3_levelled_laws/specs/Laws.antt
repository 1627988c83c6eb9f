-- What sources spell has operators of one sort in each chain, and initializers that are written; so it makes sense where it breaks no rule.
use Rattle.std.specs.Prelude.{ℕ, List}
use Rattle.f3_lookups.specs.declared.lookup.Lookup.{Lookup}
use Rattle.f3_places.specs.declared.source.Source.{Source}
use Rattle.f3_tree.specs.Expressions as e
use Rattle.f3_tree.specs.Tree.{Tree}
use Rattle.f3_words.specs.declared.item.Item.{Item}
use Rattle.f3_expressions.specs.Grammar.{EatsExpression}
use Rattle.f3_parse.specs.Spells.{Spells}
use Rattle.f3_program.specs.declared.program.Program.{Program}
use Rattle.f3_meaning_whole.specs.Formed.{IsWellFormed}
use Rattle.f3_formed_laws.specs.Levels.{IsLevelled, AreBodiesLevelled}
use Rattle.f3_agreement_laws.specs.Unbroken.{IsUnbroken}
use Rattle.f3_variable_laws.specs.Laws.{IsElaborated}
use Rattle.f3_kind_laws.specs.Written.{AreInitialsWritten}

-- the operators of each chain that tokens spell all take integers, or all logicals
abbrev pub ExpressionsAreLevelled : Type 0
ExpressionsAreLevelled = (e : e.Tree) (ts r : List Item) → EatsExpression e ts r → IsLevelled e

-- so in the bodies of a tree that sources spell
abbrev pub SpelledBodiesAreLevelled : Type 0
SpelledBodiesAreLevelled = (sources : List Source) (t : Tree) → Spells t sources → AreBodiesLevelled t

-- and its initializers are written
abbrev pub SpelledInitialsAreWritten : Type 0
SpelledInitialsAreWritten = (sources : List Source) (t : Tree) → Spells t sources → AreInitialsWritten t

-- where no rule is broken its elaborated program makes sense
abbrev pub SpelledMakesSense : Type 0
SpelledMakesSense = (sources : List Source) (t : Tree) (look : ℕ → ℕ → Lookup) (order : List ℕ) (p : Program) → Spells t sources → IsUnbroken t look order
    → IsElaborated p t look order → IsWellFormed p
