-- Parts whose blocks are given back.
use Rattle.std.proofs.Common.{◌≡◌, ℕ, zero, suc, ◌+◌, Bool, true, false, ◌&&◌, nat_eq, List, [], ◌∷◌, map, refl, sym, ap, ◌∙◌, arith}
use Rattle.f3_live_blocks.specs.Blocks.{Live, pins_of}
use Rattle.f3_meaning_whole.specs.Value.{Span, Value, Composite, Array, Values, more, joined, count, cleared, all_cleared}
use Rattle.f3_meaning_whole.specs.Shape.{Shape, Whole, Logical, Record, Parts, nothing, and}
use Rattle.f3_meaning_whole.specs.Store.{get}
use Rattle.f3_objects.specs.Tree.{Tree, End, Word, Unallocated as NoBlock, Allocated as Block, ◌⊕◌, Value as Items, Nil, Number as Item, Absent, Present, value}
use Rattle.f3_objects.specs.Holds.{is_free, left}
use Rattle.f3_objects.proofs.Trees.{◌⊞◌, free-left}
use Rattle.f3_objects.proofs.Emptying.{fits-left}
use Rattle.f3_rooms.specs.Held.{Held, Row, Empty, Holds, Parts as Divided, parts_of, first, others}
use Rattle.f3_rooms.specs.Forms.{Form, Laid, Allocatable, form_of, form_words, words_for}
use Rattle.f3_rooms.specs.Values.{elements, laid, formed, object, components}
use Rattle.f3_rooms.specs.Rooms.{store_of}
use Rattle.f3_rooms.specs.Places.{Found, value_at}
use Rattle.f3_rooms.specs.Laws.{path_at}
use Rattle.f3_rooms.proofs.Reading.{parts_are_found}
use Rattle.f3_rooms.proofs.Within.{part_lies}
use Rattle.f3_room_objects.specs.Trees.{layout_of, Growing, trees, laid_tree, formed_tree, object_tree, components_tree, tree_at}
use Rattle.f3_room_objects.specs.Changes.{FreedPartsAreCleared}
use Rattle.f3_room_objects.proofs.Bounds.{bounds_bare}
use Rattle.f3_room_objects.proofs.Growing.{parts_are_apart, parts_hold_trees}
use Rattle.f3_room_objects.proofs.Putting.{tree_put}
use Rattle.f3_room_objects.proofs.Values.{Reader, Reading, read_all, read_laid, read_form, read_object, read_components, read_part, onto_nil}

-- a value with nothing allocated
abbrev gone : Items → Items
gone Nil = Nil
gone (Item z v) = Item z (gone v)
gone (Absent v) = Absent (gone v)
gone (Present dims c v) = Absent (gone v)

gone_onto : (t u : Tree) (v : Items) → gone (value (t ⊕ u)) ⊞ v ≡ gone (value t) ⊞ (gone (value u) ⊞ v)
gone_onto End u v = refl
gone_onto (Word w t) u v = ap (Item w) (gone_onto t u v)
gone_onto (NoBlock dims t) u v = ap Absent (gone_onto t u v)
gone_onto (Block b dims c t) u v = ap Absent (gone_onto t u v)

-- that is left where no block is pinned
left_both : (a b : Bool) → (a && b) ≡ true → a ≡ true
left_both true b e = refl
left_both false b e = e

right_both : (a b : Bool) → (a && b) ≡ true → b ≡ true
right_both true b e = e
right_both false b e = absurd (cc)

value_left : (p : ℕ → ℕ) (t : Tree) → is_free p t ≡ true → value (left p t) ≡ gone (value t)
value_left p End e = refl
value_left p (Word w t) e = ap (Item w) (value_left p t e)
value_left p (NoBlock dims t) e = ap Absent (value_left p t e)
value_left p (Block b dims c t) e =
    let k = left_both (nat_eq (p b) 0 && is_free p c) (is_free p t) e in
    let f = left_both (nat_eq (p b) 0) (is_free p c) k in
    let g = right_both (nat_eq (p b) 0) (is_free p c) k in
    rw (f, g) (ap Absent (value_left p t (right_both (nat_eq (p b) 0 && is_free p c) (is_free p t) e)))

-- ---- reading

joined_cleared : (vs : List Value) → joined (map cleared vs) ≡ all_cleared (joined vs)
joined_cleared [] = refl
joined_cleared (v ∷ vs) = ap (more (cleared v)) (joined_cleared vs)

abbrev ReadsCleared : Reader → Reading → Growing → Type 0
ReadsCleared r f grow = (b o : ℕ) (h : Held) (v : Items) → r (gone (value (grow b o h)) ⊞ v) ≡ (cleared (f b o h), v)

module _ (m : Live) (n : ℕ) (r : Reader) (f : Reading) (grow : Growing) (reads : ReadsCleared r f grow) where
  all_read : (k b o : ℕ) (hs : Row) (v : Items) → read_all k r (gone (value (trees k n grow b o hs)) ⊞ v) ≡ (map cleared (elements k n f b o hs), v)
  all_read zero b o hs v = refl
  all_read (suc k) b o hs v =
      let u : Tree = trees k n grow b (o + n) (others hs) in
      ap (read_all (suc k) r) (gone_onto (grow b o (first hs)) u v)
      ∙ ap (λ (p : Value × Items). let q = read_all k r p.1 in let s : List Value × Items = (p.0 ∷ q.0, q.1) in s) (reads b o (first hs) (gone (value u) ⊞ v))
      ∙ ap (λ (q : List Value × Items). let s : List Value × Items = (cleared (f b o (first hs)) ∷ q.0, q.1) in s) (all_read k b (o + n) (others hs) v)

  laid_read : (rank : ℕ) (ss : List Span) → ReadsCleared (read_laid rank ss r) (laid rank ss n f) (laid_tree rank ss n grow)
  laid_read zero ss b o h v = reads b o h v
  laid_read (suc rank) ss b o h v =
      ap (λ (q : List Value × Items). let s : Value × Items = (Array ss (joined q.0), q.1) in s) (all_read (count ss) b o (parts_of h) v)
      ∙ ap (λ vs. let s : Value × Items = (Array ss vs, v) in s) (joined_cleared (elements (count ss) n f b o (parts_of h)))

  form_read : (form : Form) → ReadsCleared (read_form form r) (formed form n f) (formed_tree m form n grow)
  form_read (Laid rank ss) b o h v = laid_read rank ss b o h v
  form_read (Allocatable rank) b o Empty v = refl
  form_read (Allocatable rank) b o (Divided hs) v = refl
  form_read (Allocatable rank) b o (Holds c ss h) v = refl

mutual
  object_read : (m : Live) (s : Shape) → ReadsCleared (read_object s) (object m s) (object_tree m s)
  object_read m Whole b o h v = refl
  object_read m Logical b o h v = refl
  object_read m (Record t parts) b o h v =
      ap (λ (q : Values × Items). let s : Value × Items = (Composite q.0, q.1) in s) (components_read m parts b o (parts_of h) v)

  components_read : (m : Live) (parts : Parts) (b o : ℕ) (hs : Row) (v : Items)
      → read_components parts (gone (value (components_tree m parts b o hs)) ⊞ v) ≡ (all_cleared (components m parts b o hs), v)
  components_read m nothing b o hs v = refl
  components_read m (and c s rest) b o hs v =
      let form : Form = form_of c.declared in
      let n : ℕ = words_for s in
      let k : ℕ = form_words form n in
      let u : Tree = components_tree m rest b (o + k) (others hs) in
      ap (read_components (and c s rest)) (gone_onto (formed_tree m form n (object_tree m s) b o (first hs)) u v)
      ∙ ap (λ (p : Value × Items). let q = read_components rest p.1 in let s : Values × Items = (more p.0 q.0, q.1) in s)
      (form_read m n (read_object s) (object m s) (object_tree m s) (object_read m s) form b o (first hs) (gone (value u) ⊞ v))
      ∙ ap (λ (q : Values × Items). let s : Values × Items = (more (cleared (formed form n (object m s) b o (first hs))) q.0, q.1) in s) (components_read m rest b (o + k) (others hs) v)

part_cleared : (m : Live) (f : Found) → read_part f.form f.shape (gone (value (tree_at m f))) ≡ cleared (value_at m f)
part_cleared m f =
    ap (read_part f.form f.shape) (sym (onto_nil (gone (value (tree_at m f)))))
    ∙ ap (λ (p : Value × Items). p.0) (form_read m (words_for f.shape) (read_object f.shape) (object m f.shape) (object_tree m f.shape) (object_read m f.shape) f.form f.block f.at f.held Nil)

pub freed_parts_are_cleared : FreedPartsAreCleared
freed_parts_are_cleared ts m n x sound r way f at frees =
    let t : Tree = tree_at m f in
    let p = pins_of m in
    let free : is_free p t ≡ true = sym frees.answered in
    let holds = parts_hold_trees m f (part_lies ts m x sound r way f at) (parts_are_apart ts m x sound r way f at) in
    tree_put ts m n x sound r way f at (left p t) (fits-left p (layout_of f) t holds.fits) (bounds_bare (left p t) (free-left p t free))
    (λ q. let e = free-left p t free q in omega arith) frees.replaced (cleared (get (store_of ts m x) (path_at r way)))
    (ap (read_part f.form f.shape) (value_left p t free) ∙ part_cleared m f ∙ ap cleared (sym (parts_are_found ts m x r way f at)))
