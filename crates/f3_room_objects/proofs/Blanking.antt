-- Parts whose words become 0.
use Rattle.std.proofs.Common.{◌≡◌, ℕ, zero, suc, ◌+◌, ◌*◌, pos, List, ◌∷◌, replicate, refl, sym, ap, subst, ◌∙◌, arith}
use Rattle.std.specs.FinMap.{empty}
use Rattle.f3_live_blocks.specs.Blocks.{Live, words_of, with_words}
use Rattle.f3_live_blocks.proofs.Laws.{get-insert_other, live-insert_same, words-insert_same, pins-insert_same}
use Rattle.f3_meaning_whole.specs.Value.{Span, count}
use Rattle.f3_meaning_whole.specs.Shape.{Shape, Whole, Logical, Record, Parts, nothing, and}
use Rattle.f3_desc.specs.Shape.{Shape as Layout, row, width}
use Rattle.f3_objects.specs.Tree.{End, Word, Unallocated, ◌⊕◌, times as times_beneath, repeated, blank, value}
use Rattle.f3_objects.specs.Holds.{Replaces as TreeReplaces, with_words_at}
use Rattle.f3_objects.proofs.Blanks.{words-blank, blank-fits, blank-bare, held-bare}
use Rattle.f3_rooms.specs.Held.{Empty, end}
use Rattle.f3_rooms.specs.Forms.{Form, Laid, Allocatable, form_of, form_words, words_for}
use Rattle.f3_rooms.specs.Places.{Found}
use Rattle.f3_rooms.specs.Laws.{IsWithin}
use Rattle.f3_rooms.proofs.Within.{part_lies}
use Rattle.f3_rooms.proofs.Zeros.{blank_word}
use Rattle.f3_room_objects.specs.Trees.{laid_as, formed_as, layout_for, layouts_for, layout_of, words_from, Growing, trees, laid_tree, formed_tree, object_tree, components_tree, tree_at}
use Rattle.f3_room_objects.specs.Changes.{blank_value, IsBare, ClearedPartsAreBlank}
use Rattle.f3_room_objects.proofs.Bounds.{bounds_bare}
use Rattle.f3_room_objects.proofs.Growing.{trees_have_their_blocks}
use Rattle.f3_room_objects.proofs.Putting.{tree_put}
use Rattle.f3_room_objects.proofs.Values.{read_part, part_read}

-- ---- where no block is live

zeros_from : (o k : ℕ) → words_from empty 0 o k ≡ replicate k (pos 0)
zeros_from o zero = refl
zeros_from o (suc k) = ap (λ w. w ∷ words_from empty 0 (o + 1) k) (blank_word 0 o) ∙ ap (λ ws. pos 0 ∷ ws) (zeros_from (o + 1) k)

module _ (l : Layout) (n : ℕ) (f : Growing) (is : (o : ℕ) → f 0 o Empty ≡ blank l) where
  all_blank : (k o : ℕ) → trees k n f 0 o end ≡ repeated k (blank l)
  all_blank zero o = refl
  all_blank (suc k) o = ap (λ t. t ⊕ trees k n f 0 (o + n) end) (is o) ∙ ap (λ t. blank l ⊕ t) (all_blank k (o + n))

  laid_blank : (rank : ℕ) (ss : List Span) (o : ℕ) → laid_tree rank ss n f 0 o Empty ≡ blank (laid_as rank ss l)
  laid_blank zero ss o = is o
  laid_blank (suc rank) ss o = all_blank (count ss) o

  form_blank : (form : Form) (o : ℕ) → formed_tree empty form n f 0 o Empty ≡ blank (formed_as form l)
  form_blank (Laid rank ss) o = laid_blank rank ss o
  form_blank (Allocatable rank) o = ap (λ dims. Unallocated dims End) (zeros_from (o + 1) (2 * rank))

mutual
  object_blank : (s : Shape) (o : ℕ) → object_tree empty s 0 o Empty ≡ blank (layout_for s)
  object_blank Whole o = ap (λ z. Word z End) (blank_word 0 o)
  object_blank Logical o = ap (λ z. Word z End) (blank_word 0 o)
  object_blank (Record t parts) o = components_blank parts o

  components_blank : (parts : Parts) (o : ℕ) → components_tree empty parts 0 o end ≡ blank (row (layouts_for parts))
  components_blank nothing o = refl
  components_blank (and c s rest) o =
      let form : Form = form_of c.declared in
      let k : ℕ = form_words form (words_for s) in
      ap (λ t. t ⊕ components_tree empty rest 0 (o + k) end) (form_blank (layout_for s) (words_for s) (object_tree empty s) (object_blank s) form o)
      ∙ ap (λ t. blank (formed_as form (layout_for s)) ⊕ t) (components_blank rest (o + k))

-- a part of that form there
abbrev nowhere : Found → Found
nowhere f = record { block = 0; at = 0; shape = f.shape; of = f.of; form = f.form; held = Empty }

part_blank : (f : Found) → tree_at empty (nowhere f) ≡ blank (layout_of f)
part_blank f = form_blank (layout_for f.shape) (words_for f.shape) (object_tree empty f.shape) (object_blank f.shape) f.form 0

-- ---- zeros

zeros_written : (m : Live) (f : Found) → IsWithin m f → IsBare f
    → TreeReplaces m (with_words m f.block (with_words_at (words_of m f.block) f.at (replicate (width (layout_of f)) (pos 0)))) f.block f.at (tree_at m f) (blank (layout_of f))
zeros_written m f within bare =
    let l : Layout = layout_of f in
    let none : (q : ℕ) → times_beneath q (blank l) ≡ 0 = blank-bare l in
    let old : (q : ℕ) → times_beneath q (tree_at m f) ≡ 0 = λ q. trees_have_their_blocks m f within q ∙ bare q in
    record {
      live = live-insert_same m f.block _;
      written = words-insert_same m f.block _ ∙ ap (with_words_at (words_of m f.block) f.at) (sym (words-blank l));
      pinned = pins-insert_same m f.block _;
      held = held-bare _ (blank l) none;
      taken = λ q some. let e = none q in absurd (omega arith);
      kept = λ q some. let e = none q in absurd (omega arith);
      given = λ q no some. let e = old q in absurd (omega arith);
      others = λ q ne no free. get-insert_other m f.block _ q ne;
    }

pub cleared_parts_are_blank : ClearedPartsAreBlank
cleared_parts_are_blank ts m n x sound r way f at bare is =
    let l : Layout = layout_of f in
    tree_put ts m n x sound r way f at (blank l) (blank-fits l) (bounds_bare (blank l) (blank-bare l)) (λ q. let e = blank-bare l q in omega arith)
    (subst (λ k. TreeReplaces m k f.block f.at (tree_at m f) (blank l)) (sym is) (zeros_written m f (part_lies ts m x sound r way f at) bare)) (blank_value f)
    (ap (λ t. read_part f.form f.shape (value t)) (sym (part_blank f)) ∙ sym (part_read empty (nowhere f)))
