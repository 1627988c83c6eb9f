-- Sources, and the statements in them, spell one tree at most.
use Rattle.std.specs.Prelude.{◌≡◌, Bool, List, string_bytes}
use Rattle.f3_places.specs.declared.source.Source.{Source}
use Rattle.f3_rules.specs.declared.breaks.Break.{Break}
use Rattle.f3_rules.specs.declared.refusal.Refusal.{Refusal}
use Rattle.f3_tree.specs.Statements.{Block}
use Rattle.f3_tree.specs.Declarations.{PartTree}
use Rattle.f3_tree.specs.Tree.{UnitTree, Tree}
use Rattle.f3_words.specs.Lines.{Line}
use Rattle.f3_blocks.specs.Pieces.{Placed}
use Rattle.f3_blocks.specs.Blocks.{IsBlock}
use Rattle.f3_parts.specs.Parts.{IsPart}
use Rattle.f3_units.specs.Units.{AreUnits}
use Rattle.f3_parse.specs.Phase.{HaveForms}
use Rattle.f3_parse.specs.Spells.{Spells, PhaseOne, IsFirstFault}

abbrev pub StatementsHaveOneForm : Type 0
StatementsHaveOneForm = (ps qs : List Placed) (ls : List Line) → HaveForms ps ls → HaveForms qs ls → ps ≡ qs

abbrev pub BlocksAreOne : Type 0
BlocksAreOne = (procedure : Bool) (b c : Block) (ps : List Placed) → IsBlock procedure b ps → IsBlock procedure c ps → b ≡ c

abbrev pub PartsAreOne : Type 0
PartsAreOne = (of_module : Bool) (p q : PartTree) (ps : List Placed) → IsPart of_module p ps → IsPart of_module q ps → p ≡ q

abbrev pub UnitsAreOne : Type 0
UnitsAreOne = (us vs : List UnitTree) (ps : List Placed) → AreUnits us ps → AreUnits vs ps → us ≡ vs

-- two trees that the same sources spell are one
abbrev pub SourcesSpellOneTree : Type 0
SourcesSpellOneTree = (t u : Tree) (sources : List Source) → Spells t sources → Spells u sources → t ≡ u

-- sources that spell a tree break no rule of the first phase
abbrev pub SpelledSourcesBreakNothing : Type 0
SpelledSourcesBreakNothing = (t : Tree) (sources : List Source) (b : Break) → Spells t sources → PhaseOne sources b → ⊥

-- two refusals that tell of the first break of the first phase have one place, one rule and one name
abbrev pub FirstBreaksAreOne : Type 0
FirstBreaksAreOne =
    (r q : Refusal) (sources : List Source) → IsFirstFault r sources → IsFirstFault q sources
    → (r.place ≡ q.place) × (r.rule ≡ q.rule) × (string_bytes r.name ≡ string_bytes q.name)
