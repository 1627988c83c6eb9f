-- Which types have layouts, and pieces of layouts (f3_desc, Shape).
use Rattle.std.proofs.Common.{zero, suc}
use Rattle.std.specs.Prelude.{⊤, ◌≡◌, ◌≤◌, ◌<◌, ◌^◌, ℕ, List, [], ◌∷◌, length, Option, None, Some}
use Rattle.f3_program.specs.declared.declarations.Declared.{Declared}
use Rattle.f3_meaning_whole.specs.Value.{count}
use Rattle.f3_meaning_whole.specs.Shape.{Shape, Whole, Logical, Record, Parts, nothing, and, shape_in}
use Rattle.f3_desc.specs.declared.piece.Piece.{Piece}
use Rattle.f3_desc.specs.Shape.{Shape as Layout, Plain, shape_at, shapes_from, most_words}
use Rattle.f3_rooms.specs.Forms.{Form, Laid, Allocatable, form_of, words_for_parts, room}
use Rattle.f3_room_objects.specs.Trees.{layout_for, formed_as}

-- ---- which types have layouts

-- an array has fewer than 2 to the 64 elements, and an allocatable at most 7 dimensions (ISO/IEC 1539-1:2004, 5.1.2.5)
abbrev pub HasPiece : Form → Type 0
HasPiece (Laid zero ss) = ⊤
HasPiece (Laid (suc rank) ss) = count ss < 2 ^ 64
HasPiece (Allocatable rank) = rank ≤ 7

abbrev pub HavePieces : Parts → Type 0
HavePieces nothing = ⊤
HavePieces (and c s rest) = HasPiece (form_of c.declared) × HavePieces rest

-- an object of the type has at most so many words, and each component can be a piece (own rule)
abbrev pub HasLayout : Shape → Type 0
HasLayout Whole = ⊤
HasLayout Logical = ⊤
HasLayout (Record t parts) = (words_for_parts parts ≤ most_words) × HavePieces parts

-- ---- pieces

-- the layouts of pieces
abbrev pub layouts_of : List Piece → List Layout
layouts_of ps = shapes_from [] ps

-- there is a piece of this number, and it has this layout
pub record IsAt (ls : List Layout) (l : Layout) (k : ℕ) : Type 0 where
  pub within : k < length ls
  pub layout : shape_at ls k ≡ l

-- those of types, in their order
abbrev pub AreAt : List Layout → List Shape → List ℕ → Type 0
AreAt ls [] [] = ⊤
AreAt ls [] (k ∷ ks) = ⊥
AreAt ls (s ∷ ss) [] = ⊥
AreAt ls (s ∷ ss) (k ∷ ks) = IsAt ls (layout_for s) k × AreAt ls ss ks

-- those of components
abbrev pub ArePartsAt : List Layout → Parts → List ℕ → Type 0
ArePartsAt ls nothing [] = ⊤
ArePartsAt ls nothing (k ∷ ks) = ⊥
ArePartsAt ls (and c s rest) [] = ⊥
ArePartsAt ls (and c s rest) (k ∷ ks) = IsAt ls (formed_as (form_of c.declared) (layout_for s)) k × ArePartsAt ls rest ks

-- the first piece is a word, and each type has the piece of its number
pub record AreNumbered (ls : List Layout) (ts : List Shape) (ks : List ℕ) : Type 0 where
  pub word : IsAt ls Plain 0
  pub types : AreAt ls ts ks

-- ---- pieces more

-- pieces behind others: those have their numbers and layouts
pub record Begins (old new : List Layout) : Type 0 where
  pub longer : length old ≤ length new
  pub same : (k : ℕ) → k < length old → shape_at new k ≡ shape_at old k

-- behind these there is one of this number with this layout
pub record Has (old new : List Piece) (l : Layout) (k : ℕ) : Type 0 where
  pub begins : Begins (layouts_of old) (layouts_of new)
  pub is : IsAt (layouts_of new) l k

-- A component has become a piece; or it cannot be one, or has too many words for an object.
abbrev pub AddsPart : List Shape → Declared → List Piece → List Piece → Option ℕ → Type 0
AddsPart ts d old new None = HasPiece (form_of d) → room ts d ≤ most_words → ⊥
AddsPart ts d old new (Some k) = HasPiece (form_of d) × Has old new (formed_as (form_of d) (layout_for (shape_in ts d.kind.of))) k

-- So all components of a type.
pub record HasParts (old new : List Piece) (parts : Parts) (ks : List ℕ) : Type 0 where
  pub begins : Begins (layouts_of old) (layouts_of new)
  pub are : ArePartsAt (layouts_of new) parts ks
  pub pieces : HavePieces parts

-- A type has become a piece, or has no layout.
abbrev pub AddsType : Shape → List Piece → List Piece → Option ℕ → Type 0
AddsType s old new None = HasLayout s → ⊥
AddsType s old new (Some k) = HasLayout s × Has old new (layout_for s) k
