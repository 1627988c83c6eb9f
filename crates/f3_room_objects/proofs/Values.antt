-- Values of parts, read from those of their trees.
use Rattle.std.proofs.Common.{◌≡◌, ℕ, zero, suc, ◌+◌, ℤ, List, [], ◌∷◌, refl, sym, ap, ◌∙◌}
use Rattle.f3_live_blocks.specs.Blocks.{Live}
use Rattle.f3_meaning_whole.specs.Value.{Span, Value, Number, Truth, Composite, Array, Unallocated, Allocated, Values, none, more, joined, count}
use Rattle.f3_meaning_whole.specs.Shape.{Shape, Whole, Logical, Record, Parts, nothing, and}
use Rattle.f3_objects.specs.Tree.{Tree, End, Word, Unallocated as NoBlock, Allocated as Block, ◌⊕◌, count_of, Value as Items, Nil, Number as Item, Absent, Present, value}
use Rattle.f3_objects.proofs.Trees.{◌⊞◌}
use Rattle.f3_rooms.specs.Held.{Held, Row, Empty, Holds, Parts as Divided, parts_of, first, others}
use Rattle.f3_rooms.specs.Forms.{Form, Laid, Allocatable, form_of, form_words, words_for}
use Rattle.f3_rooms.specs.Values.{is_set, elements, laid, formed, object, components}
use Rattle.f3_rooms.specs.Places.{Found, value_at}
use Rattle.f3_room_objects.specs.Trees.{bounds_of, Growing, trees, laid_tree, formed_tree, object_tree, components_tree, tree_at}
use Rattle.f3_room_objects.specs.Changes.{EqualTreesAreEqual}

-- ---- reading

-- what stands in front of items, and what is behind
abbrev pub Reader : Type 0
Reader = Items → Value × Items

abbrev pub read_all : ℕ → Reader → Items → List Value × Items
read_all zero r v = ([], v)
read_all (suc k) r v = let p = r v in let q = read_all k r p.1 in (p.0 ∷ q.0, q.1)

abbrev pub read_laid : ℕ → List Span → Reader → Reader
read_laid zero ss r v = r v
read_laid (suc rank) ss r v = let q = read_all (count ss) r v in (Array ss (joined q.0), q.1)

abbrev spans_read : List ℤ → List Span
spans_read [] = []
spans_read (lower ∷ []) = []
spans_read (lower ∷ extent ∷ dims) = record { lower = lower; extent = count_of extent } ∷ spans_read dims

abbrev pub read_holder : ℕ → Reader → Reader
read_holder rank r (Present dims c v) = (Allocated (read_laid rank (spans_read dims) r c).0, v)
read_holder rank r (Absent v) = (Unallocated, v)
read_holder rank r Nil = (Unallocated, Nil)
read_holder rank r (Item z v) = (Unallocated, v)

abbrev pub read_form : Form → Reader → Reader
read_form (Laid rank ss) r v = read_laid rank ss r v
read_form (Allocatable rank) r v = read_holder rank r v

abbrev pub read_whole : Reader
read_whole (Item z v) = (Number z, v)
read_whole Nil = (Unallocated, Nil)
read_whole (Absent v) = (Unallocated, v)
read_whole (Present dims c v) = (Unallocated, v)

abbrev pub read_logical : Reader
read_logical (Item z v) = (Truth (is_set z), v)
read_logical Nil = (Unallocated, Nil)
read_logical (Absent v) = (Unallocated, v)
read_logical (Present dims c v) = (Unallocated, v)

abbrev mutual
  pub read_object : Shape → Reader
  read_object Whole v = read_whole v
  read_object Logical v = read_logical v
  read_object (Record t parts) v = let q = read_components parts v in (Composite q.0, q.1)

  pub read_components : Parts → Items → Values × Items
  read_components nothing v = (none, v)
  read_components (and c s rest) v =
      let p = read_form (form_of c.declared) (read_object s) v in
      let q = read_components rest p.1 in
      (more p.0 q.0, q.1)

-- ---- trees of parts

value_onto : (t u : Tree) (v : Items) → value (t ⊕ u) ⊞ v ≡ value t ⊞ (value u ⊞ v)
value_onto End u v = refl
value_onto (Word w t) u v = ap (Item w) (value_onto t u v)
value_onto (NoBlock dims t) u v = ap Absent (value_onto t u v)
value_onto (Block b dims c t) u v = ap (Present dims (value c)) (value_onto t u v)

pub onto_nil : (v : Items) → v ⊞ Nil ≡ v
onto_nil Nil = refl
onto_nil (Item z v) = ap (Item z) (onto_nil v)
onto_nil (Absent v) = ap Absent (onto_nil v)
onto_nil (Present dims c v) = ap (Present dims c) (onto_nil v)

spans_told : (ss : List Span) → spans_read (bounds_of ss) ≡ ss
spans_told [] = refl
spans_told (s ∷ ss) = ap (λ rs. s ∷ rs) (spans_told ss)

abbrev pub Reading : Type 0
Reading = ℕ → ℕ → Held → Value

-- a reader reads the value of an object from that of its tree
abbrev Reads : Reader → Reading → Growing → Type 0
Reads r f grow = (b o : ℕ) (h : Held) (v : Items) → r (value (grow b o h) ⊞ v) ≡ (f b o h, v)

module _ (m : Live) (n : ℕ) (r : Reader) (f : Reading) (grow : Growing) (reads : Reads r f grow) where
  all_read : (k b o : ℕ) (hs : Row) (v : Items) → read_all k r (value (trees k n grow b o hs) ⊞ v) ≡ (elements k n f b o hs, v)
  all_read zero b o hs v = refl
  all_read (suc k) b o hs v =
      let u : Tree = trees k n grow b (o + n) (others hs) in
      ap (read_all (suc k) r) (value_onto (grow b o (first hs)) u v)
      ∙ ap (λ (p : Value × Items). let q = read_all k r p.1 in let s : List Value × Items = (p.0 ∷ q.0, q.1) in s) (reads b o (first hs) (value u ⊞ v))
      ∙ ap (λ (q : List Value × Items). let s : List Value × Items = (f b o (first hs) ∷ q.0, q.1) in s) (all_read k b (o + n) (others hs) v)

  laid_read : (rank : ℕ) (ss : List Span) → Reads (read_laid rank ss r) (laid rank ss n f) (laid_tree rank ss n grow)
  laid_read zero ss b o h v = reads b o h v
  laid_read (suc rank) ss b o h v =
      ap (λ (q : List Value × Items). let s : Value × Items = (Array ss (joined q.0), q.1) in s) (all_read (count ss) b o (parts_of h) v)

  form_read : (form : Form) → Reads (read_form form r) (formed form n f) (formed_tree m form n grow)
  form_read (Laid rank ss) b o h v = laid_read rank ss b o h v
  form_read (Allocatable rank) b o Empty v = refl
  form_read (Allocatable rank) b o (Divided hs) v = refl
  form_read (Allocatable rank) b o (Holds c ss h) v =
      let u : Tree = laid_tree rank ss n grow c 0 h in
      ap (λ w. let s : Value × Items = (Allocated w, v) in s)
      (ap (λ rs. (read_laid rank rs r (value u)).0) (spans_told ss)
      ∙ ap (λ w. (read_laid rank ss r w).0) (sym (onto_nil (value u)))
      ∙ ap (λ (p : Value × Items). p.0) (laid_read rank ss c 0 h Nil))

mutual
  object_read : (m : Live) (s : Shape) → Reads (read_object s) (object m s) (object_tree m s)
  object_read m Whole b o h v = refl
  object_read m Logical b o h v = refl
  object_read m (Record t parts) b o h v =
      ap (λ (q : Values × Items). let s : Value × Items = (Composite q.0, q.1) in s) (components_read m parts b o (parts_of h) v)

  components_read : (m : Live) (parts : Parts) (b o : ℕ) (hs : Row) (v : Items) → read_components parts (value (components_tree m parts b o hs) ⊞ v) ≡ (components m parts b o hs, v)
  components_read m nothing b o hs v = refl
  components_read m (and c s rest) b o hs v =
      let form : Form = form_of c.declared in
      let n : ℕ = words_for s in
      let k : ℕ = form_words form n in
      let u : Tree = components_tree m rest b (o + k) (others hs) in
      ap (read_components (and c s rest)) (value_onto (formed_tree m form n (object_tree m s) b o (first hs)) u v)
      ∙ ap (λ (p : Value × Items). let q = read_components rest p.1 in let s : Values × Items = (more p.0 q.0, q.1) in s)
      (form_read m n (read_object s) (object m s) (object_tree m s) (object_read m s) form b o (first hs) (value u ⊞ v))
      ∙ ap (λ (q : Values × Items). let s : Values × Items = (more (formed form n (object m s) b o (first hs)) q.0, q.1) in s) (components_read m rest b (o + k) (others hs) v)

-- the value of a part, from that of its tree
abbrev pub read_part : Form → Shape → Items → Value
read_part form s v = (read_form form (read_object s) v).0

pub part_read : (m : Live) (f : Found) → value_at m f ≡ read_part f.form f.shape (value (tree_at m f))
part_read m f =
    sym (ap (read_part f.form f.shape) (sym (onto_nil (value (tree_at m f))))
    ∙ ap (λ (p : Value × Items). p.0) (form_read m (words_for f.shape) (read_object f.shape) (object m f.shape) (object_tree m f.shape) (object_read m f.shape) f.form f.block f.at f.held Nil))

pub equal_trees_are_equal : EqualTreesAreEqual
equal_trees_are_equal m n f g form shape e =
    part_read n g ∙ ap (λ v. read_part g.form g.shape v) e
    ∙ ap (λ k. read_part k g.shape (value (tree_at m f))) form
    ∙ ap (λ s. read_part f.form s (value (tree_at m f))) shape
    ∙ sym (part_read m f)
