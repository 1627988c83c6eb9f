-- What spells a program, and the first fault of sources that no program spells.
use Rattle.std.specs.Prelude.{◌≡◌, ℕ, ◌-◌, List, [], ◌∷◌, length, Some, None, Result, Ok, Err, slice_index_or, nat_lt, if◌then◌else◌}
use Rattle.f3_places.specs.declared.source.Place.{Place}
use Rattle.f3_places.specs.declared.source.Source.{Source}
use Rattle.f3_rules.specs.declared.breaks.Break.{Break}
use Rattle.f3_rules.specs.declared.refusal.Refusal.{Refusal}
use Rattle.f3_rules.specs.Least.{Least}
use Rattle.f3_text.specs.declared.statement.TextFault.{TextFault}
use Rattle.f3_text.specs.declared.statement.TextFault.TheVariants.{Refused, Memory}
use Rattle.f3_text.specs.Statements.{Parts, cut_of}
use Rattle.f3_text.specs.Reader.{bytes_of, Tells}
use Rattle.f3_text.specs.Ends.{end_of}
use Rattle.f3_tree.specs.declared.program.Program.{Program}
use Rattle.f3_tree.specs.Tree.{Tree, view}
use Rattle.f3_words.specs.Lines.{Line, Seen, nothing_seen, lines_of, seen_in}
use Rattle.f3_blocks.specs.Pieces.{Placed}
use Rattle.f3_units.specs.Units.{AreUnits}
use Rattle.f3_parse.specs.Nested.{IsShallow}
use Rattle.f3_parse.specs.Phase.{HaveForms, BreaksOf}

-- The end of a source by its number. One past the size limit is not examined; it counts as ending where it begins.
abbrev pub end_place : ℕ → List ℕ → Place
end_place file bytes = if nat_lt 16777216 (length bytes) then record { file = file; line = 1; column = 1 } else end_of file bytes

abbrev pub ends_of : List (List ℕ) → ℕ → Place
ends_of sources file = end_place file (slice_index_or sources (file - 1) [])

-- the end of the last source; line 1, column 1 of source 1 where there is none
abbrev pub last_end : List (List ℕ) → Place
last_end [] = record { file = 1; line = 1; column = 1 }
last_end (s ∷ ss) = ends_of (s ∷ ss) (length (s ∷ ss))

abbrev pub parts_of_sources : List Source → Parts
parts_of_sources sources = cut_of (bytes_of sources)

-- the statements of sources before a fault of the text, and the names and character constants in them
abbrev pub lines_in : List Source → List Line
lines_in sources = lines_of nothing_seen (parts_of_sources sources).statements

abbrev pub seen_in_sources : List Source → Seen
seen_in_sources sources = seen_in nothing_seen (parts_of_sources sources).statements

-- Sources spell a tree where their text has no fault, each statement has its form, with no name too long and no literal
-- too large, the forms are those of the tree's units, and no 65th construct is opened.
pub record Spells (t : Tree) (sources : List Source) : Type 0 where
  pub forms : List Placed
  pub no_fault : (parts_of_sources sources).fault ≡ None
  pub have : HaveForms forms (lines_in sources)
  pub units : AreUnits t.units forms
  pub shallow : IsShallow forms
  pub names : t.names ≡ (seen_in_sources sources).names
  pub texts : t.texts ≡ (seen_in_sources sources).texts
  pub end : t.end ≡ last_end (bytes_of sources)

-- the breaks of the first phase
abbrev pub PhaseOne : List Source → Break → Type 0
PhaseOne sources b = BreaksOf (ends_of (bytes_of sources)) (lines_in sources) (parts_of_sources sources).fault b

-- the refusal tells of the first of them
abbrev pub IsFirstFault : Refusal → List Source → Type 0
IsFirstFault r sources = (b : Break) × Least (Some b) (PhaseOne sources) × Tells r b

abbrev pub Parses : Result Program TextFault → List Source → Type 0
Parses (Ok p) sources = Spells (view p) sources × ((t : Tree) → Spells t sources → t ≡ view p) × ((b : Break) → PhaseOne sources b → ⊥)
Parses (Err (Refused r)) sources = IsFirstFault r sources × ((t : Tree) → Spells t sources → ⊥)
Parses (Err Memory) sources = Unit {0}
