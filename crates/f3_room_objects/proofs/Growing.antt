-- Trees of what is sound.
use Rattle.std.proofs.Common.{◌≡◌, ℕ, zero, suc, ◌+◌, ◌*◌, ◌≤◌, ℤ, pos, Bool, true, false, cond, List, [], ◌∷◌, ◌++◌, length, take, drop, nat_eq, refl, sym, ap, subst, ◌∙◌, arith, append-nil}
use Rattle.std.specs.Prelude.{if◌then◌else◌}
use Rattle.f3_live_blocks.specs.Blocks.{Live, words_of}
use Rattle.f3_meaning_whole.specs.Value.{Span, count}
use Rattle.f3_meaning_whole.specs.Shape.{Shape, Whole, Logical, Record, Parts, nothing, and}
use Rattle.f3_desc.specs.Shape.{Shape as Layout, Both, Times, row}
use Rattle.f3_objects.specs.Tree.{Tree, End, ◌⊕◌, words, times as times_beneath, one_at, elements, Repeats, unallocated, allocated, Fits}
use Rattle.f3_objects.specs.Holds.{Held as IsHeld}
use Rattle.f3_objects.proofs.Trees.{append-End, words-append, times-append, held_both}
use Rattle.f3_rooms.specs.Held.{Held, Row, Empty, Holds, Parts as Divided, parts_of, first, others, blocks_in, blocks_in_all, times}
use Rattle.f3_rooms.specs.Forms.{Form, Laid, Allocatable, form_of, form_words, laid_words, words_for, words_for_parts}
use Rattle.f3_rooms.specs.Values.{word}
use Rattle.f3_rooms.specs.Places.{Found}
use Rattle.f3_rooms.specs.Sound.{Fact, Each, AreLaid, IsForm, IsObject, AreComponents}
use Rattle.f3_rooms.specs.Laws.{IsWithin}
use Rattle.f3_rooms.proofs.Framing.{times_append, times_row}
use Rattle.f3_rooms.proofs.Living.{times_divided, times_end}
use Rattle.f3_rooms.proofs.Within.{store_owns}
use Rattle.f3_room_objects.specs.Trees.{laid_as, formed_as, layout_for, layouts_for, layout_of, words_from, bounds_of, Growing, trees, laid_tree, formed_tree, object_tree, components_tree, tree_at}
use Rattle.f3_room_objects.specs.Laws.{PartsAreApart, PartsHoldTrees, TreesHaveTheirBlocks}
use Rattle.f3_room_objects.proofs.Windows.{length-words_from, words_from-append, window, whole_block, tell_bounds, length-bounds, elements-bounds}

-- a tree of a layout, of so many words of a block from one on, and of these blocks
pub record Grown (m : Live) (l : Layout) (k b o : ℕ) (bs : List ℕ) (t : Tree) : Type 0 where
  pub fits : Fits l t
  pub words : words t ≡ words_from m b o k
  pub held : IsHeld m t
  pub counted : (q : ℕ) → times_beneath q t ≡ times q bs

-- in other words
module _ (m : Live) (l : Layout) (k b o : ℕ) (bs : List ℕ) (t : Tree) where
  same_blocks : (cs : List ℕ) → ((q : ℕ) → times q bs ≡ times q cs) → Grown m l k b o bs t → Grown m l k b o cs t
  same_blocks cs same g = record { fits = g.fits; words = g.words; held = g.held; counted = λ q. g.counted q ∙ same q }

  same_width : (j : ℕ) → k ≡ j → Grown m l k b o bs t → Grown m l j b o bs t
  same_width j e g = subst (λ i. Grown m l i b o bs t) e g

-- one tree behind another
both : (m : Live) (l r : Layout) (k j b o : ℕ) (bs cs : List ℕ) (t u : Tree) → Grown m l k b o bs t → Grown m r j b (o + k) cs u → Grown m (Both l r) (k + j) b o (bs ++ cs) (t ⊕ u)
both m l r k j b o bs cs t u g h = record {
  fits = record { front = t; back = u; split = refl; first = g.fits; second = h.fits };
  words = words-append t u ∙ ap (λ ws. ws ++ words u) g.words ∙ ap (λ ws. words_from m b o k ++ ws) h.words ∙ sym (words_from-append m b o k j);
  held = held_both m t u g.held h.held;
  counted = λ q. let e = times-append q t u in let f = times_append q bs cs in let i = g.counted q in let j = h.counted q in omega arith;
}

both_parts : (m : Live) (l r : Layout) (k j b o : ℕ) (hs : Row) (t u : Tree) → Grown m l k b o (blocks_in (first hs)) t → Grown m r j b (o + k) (blocks_in_all (others hs)) u
    → Grown m (Both l r) (k + j) b o (blocks_in_all hs) (t ⊕ u)
both_parts m l r k j b o hs t u g h =
    same_blocks m (Both l r) (k + j) b o (blocks_in (first hs) ++ blocks_in_all (others hs)) (t ⊕ u) (blocks_in_all hs)
    (λ q. let e = times_append q (blocks_in (first hs)) (blocks_in_all (others hs)) in let f = times_row q hs in omega arith)
    (both m l r k j b o (blocks_in (first hs)) (blocks_in_all (others hs)) t u g h)

one_is : (q b : ℕ) → one_at q b ≡ times q (b ∷ [])
one_is q b = by (nat_eq q b)
  where
    by : (t : Bool) → cond t 1 0 ≡ (if t then 1 else 0) + 0
    by true = refl
    by false = refl

-- the first word of an allocatable, and its bounds
pub holder_words : (m : Live) (b o rank : ℕ) → word m b o ∷ words_from m b (o + 1) (2 * rank) ≡ words_from m b o (1 + 2 * rank)
holder_words m b o rank = let e : suc (2 * rank) ≡ 1 + 2 * rank = omega arith in ap (words_from m b o) e

-- as many elements as the bounds give
contents_repeat : (rank : ℕ) (ss : List Span) (l : Layout) (t : Tree) → length ss ≡ rank → Fits (laid_as rank ss l) t → Repeats (elements (bounds_of ss)) (Fits l) t
contents_repeat zero [] l t e fits = record { front = t; back = End; split = sym (append-End t); first = fits; second = refl }
contents_repeat zero (s ∷ ss) l t e fits = absurd (omega arith)
contents_repeat (suc rank) ss l t e fits = subst (λ k. Repeats k (Fits l) t) (sym (elements-bounds ss)) fits

module _ (m : Live) (l : Layout) (n : ℕ) (f : Growing) (P : Fact) (grown : (b o : ℕ) (h : Held) → P b o h → Grown m l n b o (blocks_in h) (f b o h)) where
  each_grown : (k b o : ℕ) (hs : Row) → Each k n P b o hs → Grown m (Times k l) (k * n) b o (blocks_in_all hs) (trees k n f b o hs)
  each_grown zero b o hs has = let e : 0 ≡ 0 * n = omega arith in record { fits = refl; words = ap (words_from m b o) e; held = tt; counted = λ q. sym (times_end q hs has) }
  each_grown (suc k) b o hs has =
      let g : Grown m (Both l (Times k l)) (n + k * n) b o (blocks_in_all hs) (f b o (first hs) ⊕ trees k n f b (o + n) (others hs))
      = both_parts m l (Times k l) n (k * n) b o hs (f b o (first hs)) (trees k n f b (o + n) (others hs)) (grown b o (first hs) has.0) (each_grown k b (o + n) (others hs) has.1) in
      let e : n + k * n ≡ suc k * n = omega arith in
      record { fits = g.fits; words = g.words ∙ ap (words_from m b o) e; held = g.held; counted = g.counted }

  laid_grown : (rank : ℕ) (ss : List Span) (b o : ℕ) (h : Held) → AreLaid rank ss n P b o h
      → Grown m (laid_as rank ss l) (laid_words rank ss n) b o (blocks_in h) (laid_tree rank ss n f b o h)
  laid_grown zero ss b o h has = grown b o h has
  laid_grown (suc rank) ss b o h has =
      same_blocks m (Times (count ss) l) (count ss * n) b o (blocks_in_all (parts_of h)) (trees (count ss) n f b o (parts_of h)) (blocks_in h) (λ q. sym (times_divided q h has.0))
      (each_grown (count ss) b o (parts_of h) has.1)

  form_grown : (form : Form) (b o : ℕ) (h : Held) → IsForm m form n P b o h → Grown m (formed_as form l) (form_words form n) b o (blocks_in h) (formed_tree m form n f b o h)
  form_grown (Laid rank ss) b o h has = laid_grown rank ss b o h has
  form_grown (Allocatable rank) b o Empty has =
      let dims : List ℤ = words_from m b (o + 1) (2 * rank) in
      record {
        fits = unallocated dims (length-words_from m b (o + 1) (2 * rank));
        words = ap (λ ws. pos 0 ∷ ws) (append-nil dims) ∙ ap (λ w. w ∷ dims) (sym has) ∙ holder_words m b o rank;
        held = tt;
        counted = λ q. refl;
      }
  form_grown (Allocatable rank) b o (Divided hs) has = absurd has
  form_grown (Allocatable rank) b o (Holds c ss h) has =
      let t : Tree = laid_tree rank ss n f c 0 h in
      let g : Grown m (laid_as rank ss l) (laid_words rank ss n) c 0 (blocks_in h) t = laid_grown rank ss c 0 h has.within in
      let ranked : length ss ≡ rank = has.ranked in
      let wide : 2 * length ss ≡ 2 * rank = omega arith in
      let dims : words_from m b (o + 1) (2 * rank) ≡ bounds_of ss = ap (words_from m b (o + 1)) (sym wide) ∙ tell_bounds m b (o + 1) ss has.bounds in
      record {
        fits = allocated c (bounds_of ss) t (length-bounds ss ∙ wide) (contents_repeat rank ss l t ranked g.fits);
        words = ap (λ ws. pos c ∷ ws) (append-nil (bounds_of ss) ∙ sym dims) ∙ ap (λ w. w ∷ words_from m b (o + 1) (2 * rank)) (sym has.names) ∙ holder_words m b o rank;
        held = (has.live, sym (g.words ∙ ap (words_from m c 0) (sym has.words) ∙ whole_block m c), g.held, tt, has.named);
        counted = λ q. let e = g.counted q in let i = one_is q c in omega arith;
      }

mutual
  object_grown : (m : Live) (s : Shape) (b o : ℕ) (h : Held) → IsObject m s b o h → Grown m (layout_for s) (words_for s) b o (blocks_in h) (object_tree m s b o h)
  object_grown m Whole b o h has = record { fits = (word m b o, refl); words = refl; held = tt; counted = λ q. ap (λ k. times q (blocks_in k)) (sym has) }
  object_grown m Logical b o h has = record { fits = (word m b o, refl); words = refl; held = tt; counted = λ q. ap (λ k. times q (blocks_in k)) (sym has) }
  object_grown m (Record t parts) b o h has =
      same_blocks m (row (layouts_for parts)) (words_for_parts parts) b o (blocks_in_all (parts_of h)) (components_tree m parts b o (parts_of h)) (blocks_in h)
      (λ q. sym (times_divided q h has.0)) (components_grown m parts b o (parts_of h) has.1)

  components_grown : (m : Live) (parts : Parts) (b o : ℕ) (hs : Row) → AreComponents m parts b o hs
      → Grown m (row (layouts_for parts)) (words_for_parts parts) b o (blocks_in_all hs) (components_tree m parts b o hs)
  components_grown m nothing b o hs has = record { fits = refl; words = refl; held = tt; counted = λ q. sym (times_end q hs has) }
  components_grown m (and c s rest) b o hs has =
      let form : Form = form_of c.declared in
      let k : ℕ = form_words form (words_for s) in
      both_parts m (formed_as form (layout_for s)) (row (layouts_for rest)) k (words_for_parts rest) b o hs
      (formed_tree m form (words_for s) (object_tree m s) b o (first hs)) (components_tree m rest b (o + k) (others hs))
      (form_grown m (layout_for s) (words_for s) (object_tree m s) (IsObject m s) (object_grown m s) form b o (first hs) has.0)
      (components_grown m rest b (o + k) (others hs) has.1)

-- ---- parts

pub part_grown : (m : Live) (f : Found) → IsWithin m f → Grown m (layout_of f) (form_words f.form (words_for f.shape)) f.block f.at (blocks_in f.held) (tree_at m f)
part_grown m f within = form_grown m (layout_for f.shape) (words_for f.shape) (object_tree m f.shape) (IsObject m f.shape) (object_grown m f.shape) f.form f.block f.at f.held within.form

pub trees_have_their_blocks : TreesHaveTheirBlocks
trees_have_their_blocks m f within q = (part_grown m f within).counted q

pub parts_hold_trees : PartsHoldTrees
parts_hold_trees m f within apart =
    let k : ℕ = form_words f.form (words_for f.shape) in
    let t : Tree = tree_at m f in
    let g : Grown m (layout_of f) k f.block f.at (blocks_in f.held) t = part_grown m f within in
    let long : f.at + k ≤ length (words_of m f.block) = within.within in
    let many : length (words t) ≡ k = ap length g.words ∙ length-words_from m f.block f.at k in
    record {
      stands = record {
        live = within.live;
        within = omega arith;
        there = ap (λ i. take i (drop f.at (words_of m f.block))) many ∙ sym (window m f.block f.at k long) ∙ sym g.words;
        held = g.held;
        once = λ q. let e = g.counted q in let i = apart.once q in omega arith;
        apart = g.counted f.block ∙ apart.own;
      };
      fits = g.fits;
    }

pub parts_are_apart : PartsAreApart
parts_are_apart ts m x sound r way f e =
    let o = store_owns ts x r way f e in
    record {
      once = λ q. let i = o.counted q in let j = sound.apart q in omega arith;
      own = let i = o.block in let j = sound.apart f.block in omega arith;
    }
