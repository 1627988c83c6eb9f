-- How variables and components are laid out in words (own rule).
use Rattle.std.proofs.Common.{zero, suc}
use Rattle.std.specs.Prelude.{ℕ, ◌+◌, ◌*◌, List, [], ◌∷◌, if◌then◌else◌}
use Rattle.f3_program.specs.declared.declarations.Declared.{Declared}
use Rattle.f3_meaning_whole.specs.Value.{Span, count}
use Rattle.f3_meaning_whole.specs.Shape.{Shape, Whole, Logical, Record, Parts, nothing, and, shape_in, spans_declared}

-- one object, or, of a rank of 1 and more, an array of these bounds; or an allocatable of a rank (ISO/IEC 1539-1:2004, 5.1.2.5)
pub data Form : Type 0 where
  Laid : (rank : ℕ) (spans : List Span) → Form
  Allocatable : (rank : ℕ) → Form

abbrev pub form_of : Declared → Form
form_of d = if d.kind.is_allocatable then Allocatable d.kind.rank else Laid d.kind.rank (spans_declared d.dimensions.items)

-- an object of so many words for each element, alone or in an array with such bounds
abbrev pub laid_words : ℕ → List Span → ℕ → ℕ
laid_words zero ss n = n
laid_words (suc rank) ss n = count ss * n

-- an allocatable has a word that names the block of what it holds, and two for each dimension: its lower bound and its extent
abbrev pub form_words : Form → ℕ → ℕ
form_words (Laid rank ss) n = laid_words rank ss n
form_words (Allocatable rank) n = 1 + 2 * rank

-- a scalar is one word, an object of a derived type has those of its components one after another (4.5.1)
abbrev mutual
  pub words_for : Shape → ℕ
  words_for Whole = 1
  words_for Logical = 1
  words_for (Record t parts) = words_for_parts parts

  pub words_for_parts : Parts → ℕ
  words_for_parts nothing = 0
  words_for_parts (and c s rest) = form_words (form_of c.declared) (words_for s) + words_for_parts rest

-- a variable, among the trees of the types of its program
abbrev pub room : List Shape → Declared → ℕ
room ts d = form_words (form_of d) (words_for (shape_in ts d.kind.of))

-- variables one after another
abbrev pub total : List Shape → List Declared → ℕ
total ts [] = 0
total ts (d ∷ ds) = room ts d + total ts ds
