-- Bounds of trees.
use Rattle.std.proofs.Common.{◌≡◌, ℕ, zero, suc, ◌+◌, List, [], ◌∷◌, refl, sym, subst, arith}
use Rattle.std.specs.Prelude.{⊤}
use Rattle.f3_live_blocks.specs.Blocks.{Live}
use Rattle.f3_meaning_whole.specs.Value.{Span, count}
use Rattle.f3_meaning_whole.specs.Shape.{Shape, Whole, Logical, Record, Parts, nothing, and}
use Rattle.f3_objects.specs.Tree.{Tree, End, Word, Unallocated, Allocated, ◌⊕◌, Value, Nil, Number, Absent, Present, value, IsBare}
use Rattle.f3_objects.proofs.Trees.{times_own}
use Rattle.f3_rooms.specs.Held.{Held, Row, Empty, Holds, Parts as Divided, parts_of, first, others}
use Rattle.f3_rooms.specs.Forms.{Form, Laid, Allocatable, form_of, form_words, words_for}
use Rattle.f3_rooms.specs.Places.{Found}
use Rattle.f3_room_objects.specs.Trees.{bounds_of, Growing, trees, laid_tree, formed_tree, object_tree, components_tree, tree_at, AreBounds, HaveBounds}

bounds_both : (t u : Tree) → HaveBounds t → HaveBounds u → HaveBounds (t ⊕ u)
bounds_both End u first second = second
bounds_both (Word w t) u first second = bounds_both t u first second
bounds_both (Unallocated dims t) u first second = bounds_both t u first second
bounds_both (Allocated b dims c t) u first second = (first.0, first.1, bounds_both t u first.2 second)

-- ---- those of parts

are_bounds : (ss : List Span) → AreBounds (bounds_of ss)
are_bounds [] = tt
are_bounds (s ∷ ss) = (refl, are_bounds ss)

module _ (m : Live) (n : ℕ) (f : Growing) (bound : (b o : ℕ) (h : Held) → HaveBounds (f b o h)) where
  all_bound : (k b o : ℕ) (hs : Row) → HaveBounds (trees k n f b o hs)
  all_bound zero b o hs = tt
  all_bound (suc k) b o hs = bounds_both (f b o (first hs)) (trees k n f b (o + n) (others hs)) (bound b o (first hs)) (all_bound k b (o + n) (others hs))

  laid_bound : (rank : ℕ) (ss : List Span) (b o : ℕ) (h : Held) → HaveBounds (laid_tree rank ss n f b o h)
  laid_bound zero ss b o h = bound b o h
  laid_bound (suc rank) ss b o h = all_bound (count ss) b o (parts_of h)

  form_bound : (form : Form) (b o : ℕ) (h : Held) → HaveBounds (formed_tree m form n f b o h)
  form_bound (Laid rank ss) b o h = laid_bound rank ss b o h
  form_bound (Allocatable rank) b o Empty = tt
  form_bound (Allocatable rank) b o (Divided hs) = tt
  form_bound (Allocatable rank) b o (Holds c ss h) = (are_bounds ss, laid_bound rank ss c 0 h, tt)

mutual
  object_bound : (m : Live) (s : Shape) (b o : ℕ) (h : Held) → HaveBounds (object_tree m s b o h)
  object_bound m Whole b o h = tt
  object_bound m Logical b o h = tt
  object_bound m (Record t parts) b o h = components_bound m parts b o (parts_of h)

  components_bound : (m : Live) (parts : Parts) (b o : ℕ) (hs : Row) → HaveBounds (components_tree m parts b o hs)
  components_bound m nothing b o hs = tt
  components_bound m (and c s rest) b o hs =
      let form : Form = form_of c.declared in
      let k : ℕ = form_words form (words_for s) in
      bounds_both (formed_tree m form (words_for s) (object_tree m s) b o (first hs)) (components_tree m rest b (o + k) (others hs))
      (form_bound m (words_for s) (object_tree m s) (object_bound m s) form b o (first hs)) (components_bound m rest b (o + k) (others hs))

pub part_bound : (m : Live) (f : Found) → HaveBounds (tree_at m f)
part_bound m f = form_bound m (words_for f.shape) (object_tree m f.shape) (object_bound m f.shape) f.form f.block f.at f.held

-- ---- those of trees of equal values

abbrev ValueBounds : Value → Type 0
ValueBounds Nil = ⊤
ValueBounds (Number z v) = ValueBounds v
ValueBounds (Absent v) = ValueBounds v
ValueBounds (Present dims c v) = AreBounds dims × ValueBounds c × ValueBounds v

bounds_told : (t : Tree) → HaveBounds t → ValueBounds (value t)
bounds_told End are = tt
bounds_told (Word w t) are = bounds_told t are
bounds_told (Unallocated dims t) are = bounds_told t are
bounds_told (Allocated b dims c t) are = (are.0, bounds_told c are.1, bounds_told t are.2)

bounds_by : (t : Tree) → ValueBounds (value t) → HaveBounds t
bounds_by End are = tt
bounds_by (Word w t) are = bounds_by t are
bounds_by (Unallocated dims t) are = bounds_by t are
bounds_by (Allocated b dims c t) are = (are.0, bounds_by c are.1, bounds_by t are.2)

pub bounds_equal : (t u : Tree) → value u ≡ value t → HaveBounds t → HaveBounds u
bounds_equal t u e are = bounds_by u (subst ValueBounds (sym e) (bounds_told t are))

-- ---- those of trees with nothing beneath

pub bounds_bare : (t : Tree) → IsBare t → HaveBounds t
bounds_bare End bare = tt
bounds_bare (Word w t) bare = bounds_bare t bare
bounds_bare (Unallocated dims t) bare = bounds_bare t bare
bounds_bare (Allocated b dims c t) bare = let e = bare b in let p = times_own b dims c t in absurd (omega arith)
