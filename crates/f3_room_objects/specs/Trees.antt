-- Parts of variables as trees of what they hold (f3_objects, Tree).
use Rattle.std.proofs.Common.{zero, suc}
use Rattle.std.specs.Prelude.{⊤, ◌≡◌, ℕ, ◌+◌, ◌*◌, ℤ, pos, List, [], ◌∷◌}
use Rattle.f3_live_blocks.specs.Blocks.{Live}
use Rattle.f3_meaning_whole.specs.Value.{Span, count}
use Rattle.f3_meaning_whole.specs.Shape.{Shape, Whole, Logical, Record, Parts, nothing, and}
use Rattle.f3_desc.specs.Shape.{Shape as Layout, Plain, Holder, Times, row}
use Rattle.f3_objects.specs.Tree.{Tree, End, Word, Unallocated, Allocated, ◌⊕◌, count_of}
use Rattle.f3_rooms.specs.Held.{Held, Row, Holds, parts_of, first, others}
use Rattle.f3_rooms.specs.Forms.{Form, Laid, Allocatable, form_of, form_words, words_for}
use Rattle.f3_rooms.specs.Values.{word}
use Rattle.f3_rooms.specs.Places.{Found}

-- ---- layouts (f3_desc, Shape)

-- one object, or the elements of an array
abbrev pub laid_as : ℕ → List Span → Layout → Layout
laid_as zero ss l = l
laid_as (suc rank) ss l = Times (count ss) l

abbrev pub formed_as : Form → Layout → Layout
formed_as (Laid rank ss) l = laid_as rank ss l
formed_as (Allocatable rank) l = Holder rank l

-- a scalar is a plain word, an object of a derived type the row of its components
abbrev mutual
  pub layout_for : Shape → Layout
  layout_for Whole = Plain
  layout_for Logical = Plain
  layout_for (Record t parts) = row (layouts_for parts)

  pub layouts_for : Parts → List Layout
  layouts_for nothing = []
  layouts_for (and c s rest) = formed_as (form_of c.declared) (layout_for s) ∷ layouts_for rest

abbrev pub layout_of : Found → Layout
layout_of f = formed_as f.form (layout_for f.shape)

-- ---- trees

-- so many words of a block, from one on
abbrev pub words_from : Live → ℕ → ℕ → ℕ → List ℤ
words_from m b o zero = []
words_from m b o (suc k) = word m b o ∷ words_from m b (o + 1) k

-- the lower bound and the extent of each dimension
abbrev pub bounds_of : List Span → List ℤ
bounds_of [] = []
bounds_of (s ∷ ss) = s.lower ∷ pos s.extent ∷ bounds_of ss

-- the tree of an object that begins at a word of a block, given what is held there
abbrev pub Growing : Type 0
Growing = ℕ → ℕ → Held → Tree

-- so many objects one behind another, each of so many words
abbrev pub trees : ℕ → ℕ → Growing → ℕ → ℕ → Row → Tree
trees zero n f b o hs = End
trees (suc k) n f b o hs = f b o (first hs) ⊕ trees k n f b (o + n) (others hs)

abbrev pub laid_tree : ℕ → List Span → ℕ → Growing → Growing
laid_tree zero ss n f b o h = f b o h
laid_tree (suc rank) ss n f b o h = trees (count ss) n f b o (parts_of h)

-- an allocatable, with what stands in the block of what it holds
abbrev pub holder_tree : Live → ℕ → ℕ → Growing → Growing
holder_tree m rank n f b o (Holds c ss h) = Allocated c (bounds_of ss) (laid_tree rank ss n f c 0 h) End
holder_tree m rank n f b o h = Unallocated (words_from m b (o + 1) (2 * rank)) End

abbrev pub formed_tree : Live → Form → ℕ → Growing → Growing
formed_tree m (Laid rank ss) n f b o h = laid_tree rank ss n f b o h
formed_tree m (Allocatable rank) n f b o h = holder_tree m rank n f b o h

-- an object of a type, and its components
abbrev mutual
  pub object_tree : Live → Shape → Growing
  object_tree m Whole b o h = Word (word m b o) End
  object_tree m Logical b o h = Word (word m b o) End
  object_tree m (Record t parts) b o h = components_tree m parts b o (parts_of h)

  pub components_tree : Live → Parts → ℕ → ℕ → Row → Tree
  components_tree m nothing b o hs = End
  components_tree m (and c s rest) b o hs =
      formed_tree m (form_of c.declared) (words_for s) (object_tree m s) b o (first hs)
      ⊕ components_tree m rest b (o + form_words (form_of c.declared) (words_for s)) (others hs)

abbrev pub tree_at : Live → Found → Tree
tree_at m f = formed_tree m f.form (words_for f.shape) (object_tree m f.shape) f.block f.at f.held

-- ---- bounds

-- no extent is negative
abbrev pub AreBounds : List ℤ → Type 0
AreBounds [] = ⊤
AreBounds (lower ∷ []) = ⊤
AreBounds (lower ∷ extent ∷ dims) = (extent ≡ pos (count_of extent)) × AreBounds dims

abbrev pub HaveBounds : Tree → Type 0
HaveBounds End = ⊤
HaveBounds (Word w t) = HaveBounds t
HaveBounds (Unallocated dims t) = HaveBounds t
HaveBounds (Allocated b dims contents t) = AreBounds dims × HaveBounds contents × HaveBounds t
