-- What a tree that stands in words of a block holds there.
use Rattle.std.proofs.Common.{◌≡◌, ℕ, zero, suc, ◌+◌, ◌*◌, ℤ, List, [], ◌∷◌, length, refl, sym, ap, subst, ◌∙◌, arith, append-nil}
use Rattle.f3_live_blocks.specs.Blocks.{Live, words_of}
use Rattle.f3_meaning_whole.specs.Value.{Span, count}
use Rattle.f3_meaning_whole.specs.Shape.{Shape, Whole, Logical, Record, Parts, nothing, and}
use Rattle.f3_desc.specs.Shape.{Shape as Layout, Plain, row, width}
use Rattle.f3_objects.specs.Tree.{Tree, End, Word, Unallocated, Allocated, ◌⊕◌, words, elements, count_of, Repeats, IsHolder, unallocated, allocated, Fits}
use Rattle.f3_objects.specs.Holds.{Held as IsHeld}
use Rattle.f3_objects.proofs.Trees.{append-End, words-append, held_front, held_back, size-fits}
use Rattle.f3_rooms.specs.Held.{Held, Row, Empty, Holds, Parts as Divided, end, next}
use Rattle.f3_rooms.specs.Forms.{Form, Laid, Allocatable, form_of, form_words, laid_words, words_for, words_for_parts}
use Rattle.f3_rooms.specs.Values.{word}
use Rattle.f3_rooms.specs.Sound.{Fact, Each, AreLaid, TellBounds, IsForm, IsObject, AreComponents}
use Rattle.f3_room_objects.specs.Trees.{laid_as, formed_as, layout_for, layouts_for, words_from, bounds_of, Growing, trees, laid_tree, formed_tree, object_tree, components_tree, AreBounds, HaveBounds}
use Rattle.f3_room_objects.proofs.Windows.{whole_block, elements-bounds, WordsAre, are_front, are_back, are_from, from_are}

-- ---- widths

width_laid : (rank : ℕ) (ss : List Span) (l : Layout) (n : ℕ) → width l ≡ n → width (laid_as rank ss l) ≡ laid_words rank ss n
width_laid zero ss l n e = e
width_laid (suc rank) ss l n e = ap (λ k. count ss * k) e

width_formed : (form : Form) (l : Layout) (n : ℕ) → width l ≡ n → width (formed_as form l) ≡ form_words form n
width_formed (Laid rank ss) l n e = width_laid rank ss l n e
width_formed (Allocatable rank) l n e = refl

mutual
  pub width_for : (s : Shape) → width (layout_for s) ≡ words_for s
  width_for Whole = refl
  width_for Logical = refl
  width_for (Record t parts) = width_row parts

  width_row : (parts : Parts) → width (row (layouts_for parts)) ≡ words_for_parts parts
  width_row nothing = refl
  width_row (and c s rest) =
      ap (λ k. k + width (row (layouts_for rest))) (width_formed (form_of c.declared) (layout_for s) (words_for s) (width_for s))
      ∙ ap (λ k. form_words (form_of c.declared) (words_for s) + k) (width_row rest)

-- ---- bounds

record AreSpans (rank : ℕ) (dims : List ℤ) : Type 0 where
  spans : List Span
  told : bounds_of spans ≡ dims
  ranked : length spans ≡ rank

spans_in : (rank : ℕ) (dims : List ℤ) → length dims ≡ 2 * rank → AreBounds dims → AreSpans rank dims
spans_in zero [] e are = record { spans = []; told = refl; ranked = refl }
spans_in zero (d ∷ ds) e are = absurd (omega arith)
spans_in (suc rank) [] e are = absurd (omega arith)
spans_in (suc rank) (d ∷ []) e are = absurd (omega arith)
spans_in (suc rank) (lower ∷ extent ∷ dims) e are =
    let s : Span = record { lower = lower; extent = count_of extent } in
    let r : AreSpans rank dims = spans_in rank dims (omega arith) are.1 in
    record {
      spans = s ∷ r.spans;
      told = ap (λ z. lower ∷ z ∷ bounds_of r.spans) (sym are.0) ∙ ap (λ ds. lower ∷ extent ∷ ds) r.told;
      ranked = ap suc r.ranked;
    }

bounds_tell : (m : Live) (b o : ℕ) (ss : List Span) → WordsAre m b o (bounds_of ss) → TellBounds m b o ss
bounds_tell m b o [] are = tt
bounds_tell m b o (s ∷ ss) are =
    let e : (o + 1) + 1 ≡ o + 2 = omega arith in
    (are.0, are.1.0, bounds_tell m b (o + 2) ss (subst (λ i. WordsAre m b i (bounds_of ss)) e are.1.1))

-- ---- trees that stand

-- a tree stands in the words of a block from one on
pub record Sits (m : Live) (b o : ℕ) (t : Tree) : Type 0 where
  pub words : WordsAre m b o (words t)
  pub held : IsHeld m t
  pub bounds : HaveBounds t

bounds_front : (t u : Tree) → HaveBounds (t ⊕ u) → HaveBounds t
bounds_front End u are = tt
bounds_front (Word w t) u are = bounds_front t u are
bounds_front (Unallocated dims t) u are = bounds_front t u are
bounds_front (Allocated b dims c t) u are = (are.0, are.1, bounds_front t u are.2)

bounds_back : (t u : Tree) → HaveBounds (t ⊕ u) → HaveBounds u
bounds_back End u are = are
bounds_back (Word w t) u are = bounds_back t u are
bounds_back (Unallocated dims t) u are = bounds_back t u are
bounds_back (Allocated b dims c t) u are = bounds_back t u are.2

sits_front : (m : Live) (b o : ℕ) (t u v : Tree) → t ≡ u ⊕ v → Sits m b o t → Sits m b o u
sits_front m b o t u v e sits = record {
  words = are_front m b o (words u) (words v) (subst (WordsAre m b o) (ap words e ∙ words-append u v) sits.words);
  held = held_front m u v (subst (IsHeld m) e sits.held);
  bounds = bounds_front u v (subst HaveBounds e sits.bounds);
}

sits_back : (m : Live) (b o n : ℕ) (t u v : Tree) → t ≡ u ⊕ v → length (words u) ≡ n → Sits m b o t → Sits m b (o + n) v
sits_back m b o n t u v e wide sits = record {
  words = subst (λ k. WordsAre m b (o + k) (words v)) wide (are_back m b o (words u) (words v) (subst (WordsAre m b o) (ap words e ∙ words-append u v) sits.words));
  held = held_back m u v (subst (IsHeld m) e sits.held);
  bounds = bounds_back u v (subst HaveBounds e sits.bounds);
}

-- what is held, where the tree of an object is this
pub record Planted (f : Growing) (P : Fact) (b o : ℕ) (t : Tree) : Type 0 where
  pub holds : Held
  pub is : f b o holds ≡ t
  pub has : P b o holds

record AllPlanted (k n : ℕ) (f : Growing) (P : Fact) (b o : ℕ) (t : Tree) : Type 0 where
  row : Row
  is : trees k n f b o row ≡ t
  have : Each k n P b o row

-- the elements of what an allocatable holds, by its rank
repeated_laid : (rank : ℕ) (ss : List Span) (l : Layout) (t : Tree) → length ss ≡ rank → Repeats (elements (bounds_of ss)) (Fits l) t → Fits (laid_as rank ss l) t
repeated_laid zero [] l t e fits = subst (Fits l) (sym (fits.split ∙ ap (λ v. fits.front ⊕ v) fits.second ∙ append-End fits.front)) fits.first
repeated_laid zero (s ∷ ss) l t e fits = absurd (omega arith)
repeated_laid (suc rank) ss l t e fits = subst (λ k. Repeats k (Fits l) t) (elements-bounds ss) fits

module _ (m : Live) (l : Layout) (n : ℕ) (wide : width l ≡ n) (f : Growing) (P : Fact) (plant : (b o : ℕ) (t : Tree) → Fits l t → Sits m b o t → Planted f P b o t) where
  each_planted : (k b o : ℕ) (t : Tree) → Repeats k (Fits l) t → Sits m b o t → AllPlanted k n f P b o t
  each_planted zero b o t fits sits = record { row = end; is = sym fits; have = refl }
  each_planted (suc k) b o t fits sits =
      let p : Planted f P b o fits.front = plant b o fits.front fits.first (sits_front m b o t fits.front fits.back fits.split sits) in
      let r : AllPlanted k n f P b (o + n) fits.back
      = each_planted k b (o + n) fits.back fits.second (sits_back m b o n t fits.front fits.back fits.split (size-fits l fits.front fits.first ∙ wide) sits) in
      record {
        row = next p.holds r.row;
        is = ap (λ u. u ⊕ trees k n f b (o + n) r.row) p.is ∙ ap (λ v. fits.front ⊕ v) r.is ∙ sym fits.split;
        have = (p.has, r.have);
      }

  laid_planted : (rank : ℕ) (ss : List Span) (b o : ℕ) (t : Tree) → Fits (laid_as rank ss l) t → Sits m b o t → Planted (laid_tree rank ss n f) (AreLaid rank ss n P) b o t
  laid_planted zero ss b o t fits sits = let p : Planted f P b o t = plant b o t fits sits in record { holds = p.holds; is = p.is; has = p.has }
  laid_planted (suc rank) ss b o t fits sits =
      let r : AllPlanted (count ss) n f P b o t = each_planted (count ss) b o t fits sits in
      record { holds = Divided r.row; is = r.is; has = (tt, r.have) }

  holder_planted : (rank b o : ℕ) (t : Tree) → IsHolder rank (Fits l) t → Sits m b o t → Planted (formed_tree m (Allocatable rank) n f) (IsForm m (Allocatable rank) n P) b o t
  holder_planted rank b o u (unallocated dims many) sits =
      record {
        holds = Empty;
        is = ap (λ ds. Unallocated ds End) (ap (words_from m b (o + 1)) (sym many) ∙ are_from m b (o + 1) dims (subst (WordsAre m b (o + 1)) (append-nil dims) sits.words.1));
        has = sits.words.0;
      }
  holder_planted rank b o u (allocated c dims t many fits) sits =
      let s : AreSpans rank dims = spans_in rank dims many sits.bounds.0 in
      let here : words_of m c ≡ words t = sits.held.1 in
      let inside : Sits m c 0 t = record {
        words = from_are m c 0 (words t) (ap (λ ws. words_from m c 0 (length ws)) (sym here) ∙ whole_block m c ∙ here);
        held = sits.held.2;
        bounds = sits.bounds.1;
      } in
      let laid : Fits (laid_as rank s.spans l) t = repeated_laid rank s.spans l t s.ranked (subst (λ ds. Repeats (elements ds) (Fits l) t) (sym s.told) fits) in
      let p : Planted (laid_tree rank s.spans n f) (AreLaid rank s.spans n P) c 0 t = laid_planted rank s.spans c 0 t laid inside in
      record {
        holds = Holds c s.spans p.holds;
        is = ap (λ ds. Allocated c ds (laid_tree rank s.spans n f c 0 p.holds) End) s.told ∙ ap (λ v. Allocated c dims v End) p.is;
        has = record {
          names = sits.words.0;
          named = sits.held.4;
          bounds = bounds_tell m b (o + 1) s.spans (subst (WordsAre m b (o + 1)) (append-nil dims ∙ sym s.told) sits.words.1);
          ranked = s.ranked;
          live = sits.held.0;
          words = ap length here ∙ size-fits (laid_as rank s.spans l) t laid ∙ width_laid rank s.spans l n wide;
          within = p.has;
        };
      }

  form_planted : (form : Form) (b o : ℕ) (t : Tree) → Fits (formed_as form l) t → Sits m b o t → Planted (formed_tree m form n f) (IsForm m form n P) b o t
  form_planted (Laid rank ss) b o t fits sits = let p = laid_planted rank ss b o t fits sits in record { holds = p.holds; is = p.is; has = p.has }
  form_planted (Allocatable rank) b o t fits sits = holder_planted rank b o t fits sits

record RowPlanted (m : Live) (parts : Parts) (b o : ℕ) (t : Tree) : Type 0 where
  row : Row
  is : components_tree m parts b o row ≡ t
  have : AreComponents m parts b o row

plain_planted : (m : Live) (b o : ℕ) (t : Tree) → Fits Plain t → Sits m b o t → Word (word m b o) End ≡ t
plain_planted m b o t fits sits = ap (λ z. Word z End) (subst (WordsAre m b o) (ap words fits.1) sits.words).0 ∙ sym fits.1

mutual
  pub object_planted : (m : Live) (s : Shape) (b o : ℕ) (t : Tree) → Fits (layout_for s) t → Sits m b o t → Planted (object_tree m s) (IsObject m s) b o t
  object_planted m Whole b o t fits sits = record { holds = Empty; is = plain_planted m b o t fits sits; has = refl }
  object_planted m Logical b o t fits sits = record { holds = Empty; is = plain_planted m b o t fits sits; has = refl }
  object_planted m (Record k parts) b o t fits sits =
      let r : RowPlanted m parts b o t = components_planted m parts b o t fits sits in record { holds = Divided r.row; is = r.is; has = (tt, r.have) }

  components_planted : (m : Live) (parts : Parts) (b o : ℕ) (t : Tree) → Fits (row (layouts_for parts)) t → Sits m b o t → RowPlanted m parts b o t
  components_planted m nothing b o t fits sits = record { row = end; is = sym fits; have = refl }
  components_planted m (and c s rest) b o t fits sits =
      let form : Form = form_of c.declared in
      let n : ℕ = words_for s in
      let k : ℕ = form_words form n in
      let l : Layout = formed_as form (layout_for s) in
      let p : Planted (formed_tree m form n (object_tree m s)) (IsForm m form n (IsObject m s)) b o fits.front
      = form_planted m (layout_for s) n (width_for s) (object_tree m s) (IsObject m s) (object_planted m s) form b o fits.front fits.first
      (sits_front m b o t fits.front fits.back fits.split sits) in
      let wide : length (words fits.front) ≡ k = size-fits l fits.front fits.first ∙ width_formed form (layout_for s) n (width_for s) in
      let r : RowPlanted m rest b (o + k) fits.back = components_planted m rest b (o + k) fits.back fits.second (sits_back m b o k t fits.front fits.back fits.split wide sits) in
      record {
        row = next p.holds r.row;
        is = ap (λ u. u ⊕ components_tree m rest b (o + k) r.row) p.is ∙ ap (λ v. fits.front ⊕ v) r.is ∙ sym fits.split;
        have = (p.has, r.have);
      }

-- ---- parts

pub part_wide : (form : Form) (s : Shape) (t : Tree) → Fits (formed_as form (layout_for s)) t → length (words t) ≡ form_words form (words_for s)
part_wide form s t fits = size-fits (formed_as form (layout_for s)) t fits ∙ width_formed form (layout_for s) (words_for s) (width_for s)

pub part_planted : (m : Live) (form : Form) (s : Shape) (b o : ℕ) (t : Tree) → Fits (formed_as form (layout_for s)) t → Sits m b o t
    → Planted (formed_tree m form (words_for s) (object_tree m s)) (IsForm m form (words_for s) (IsObject m s)) b o t
part_planted m form s b o t fits sits = form_planted m (layout_for s) (words_for s) (width_for s) (object_tree m s) (IsObject m s) (object_planted m s) form b o t fits sits
