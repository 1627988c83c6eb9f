-- What the words of laid segments tell at a block's place.
use Rattle.std.proofs.Common.{◌≡◌, ◌≢◌, ℕ, ℤ, pos, negsuc, ◌+◌, ◌^◌, ◌<◌, ◌≤◌, List, [], ◌∷◌, ◌++◌, length, get_or, refl, sym, ap, subst, ◌∙◌, arith, append_assoc, length-append, ◌⊎◌, inl, inr}
use Rattle.std.proofs.lemmas.List.{get_or-append-add}
use mir.Syntax.{w64}
use Rattle.std.specs.Int.{cast_signed, cast_unsigned}
use Rattle.f3_heap_laws.specs.Account.{r}
use Rattle.f3_heap_laws.specs.Placed.{extent}
use Rattle.f3_heap_laws.specs.Segments.{Segment, Used, Free, seg_size, seg_block, first_free, last_free, free_words, cells, AreValid, Lays, NoneFits, FitsAt, Searches, free_size_of}
use Rattle.f3_heap_laws.proofs.Placed.{extent-append}
use Rattle.f3_heap_laws.proofs.Segs.{seg_positive, length-cells, cells-append, AreValid-back}

add_nothing : (n : ℕ) → n + 0 ≡ n
add_nothing n = omega arith

three_one : (n : ℕ) → (n + 3) + 1 ≡ n + 4
three_one n = omega arith

from_zero : (n : ℕ) → 0 + n ≡ n
from_zero n = omega arith

pub seg-extent-append : (xs ys : List Segment) → extent seg_block seg_size (xs ++ ys) ≡ extent seg_block seg_size xs + extent seg_block seg_size ys
seg-extent-append xs ys = extent-append seg_block seg_size seg_positive xs ys

pub read_at : (xs ys : List ℤ) (q n : ℕ) (d : ℤ) → length xs ≡ q → get_or (xs ++ ys) (q + n) d ≡ get_or ys n d
read_at xs ys q n d e = ap (λ k. get_or (xs ++ ys) (k + n) d) (sym e) ∙ get_or-append-add xs ys n d

pub read_first : (xs ys : List ℤ) (q : ℕ) (d : ℤ) → length xs ≡ q → get_or (xs ++ ys) q d ≡ get_or ys 0 d
read_first xs ys q d e = ap (λ k. get_or (xs ++ ys) k d) (sym (add_nothing q)) ∙ read_at xs ys q 0 d e

-- a free block's last word
last_word : (junk more rest : List ℤ) (next prev : ℕ) → get_or ((free_words junk next prev ++ more) ++ rest) (length junk + 3) (pos 0) ≡ negsuc (length junk + 3)
last_word junk more rest next prev =
    ap (λ (l : List ℤ). get_or (negsuc (length junk + 3) ∷ pos next ∷ pos prev ∷ l) (length junk + 3) (pos 0)) (append_assoc (junk ++ negsuc (length junk + 3) ∷ []) more rest ∙ append_assoc junk (negsuc (length junk + 3) ∷ []) (more ++ rest))
    ∙ read_first (negsuc (length junk + 3) ∷ pos next ∷ pos prev ∷ junk) (negsuc (length junk + 3) ∷ (more ++ rest)) (length junk + 3) (pos 0) (omega arith)

module _ (none : ℕ) (segs : List Segment) (ws : List ℤ) (first end : ℕ) (h : Lays none segs ws first end) where
  pub end-within : end ≤ length ws
  end-within = omega (arith, h.ends, ap length h.laid, length-append (cells none none 0 segs) h.rest, length-cells none none 0 segs)

  -- the words before and from a place on
  pub laid-at : (front back : List Segment) → segs ≡ front ++ back
      → ws ≡ cells none (first_free none (extent seg_block seg_size front) back) 0 front ++ (cells (last_free none 0 front) none (extent seg_block seg_size front) back ++ h.rest)
  laid-at front back split =
      h.laid
      ∙ ap (λ ss. cells none none 0 ss ++ h.rest) split
      ∙ ap (λ l. l ++ h.rest) (cells-append none none 0 front back ∙ ap (λ k. cells none (first_free none k back) 0 front ++ cells (last_free none 0 front) none k back) (from_zero (extent seg_block seg_size front)))
      ∙ append_assoc _ _ h.rest

  pub split-ends : (front back : List Segment) → segs ≡ front ++ back → end ≡ extent seg_block seg_size front + extent seg_block seg_size back
  split-ends front back split = h.ends ∙ ap (extent seg_block seg_size) split ∙ seg-extent-append front back

  front-length : (front back : List Segment) → length (cells none (first_free none (extent seg_block seg_size front) back) 0 front) ≡ extent seg_block seg_size front
  front-length front back = length-cells none (first_free none (extent seg_block seg_size front) back) 0 front

  -- a block's word number n, where the block is laid as `block` and more
  pub read-block : (front back : List Segment) (at n : ℕ) (d : ℤ) → segs ≡ front ++ back → at ≡ extent seg_block seg_size front
      → get_or ws (at + n) d ≡ get_or (cells (last_free none 0 front) none (extent seg_block seg_size front) back ++ h.rest) n d
  read-block front back at n d split place =
      ap (λ l. get_or l (at + n) d) (laid-at front back split) ∙ read_at _ _ at n d (front-length front back ∙ sym place)

  -- a free block's three first words
  module _ (front : List Segment) (junk : List ℤ) (back : List Segment) (at : ℕ) (split : segs ≡ front ++ Free junk ∷ back) (place : at ≡ extent seg_block seg_size front) where
    pub free-head : get_or ws at (pos 0) ≡ negsuc (length junk + 3)
    free-head = ap (λ k. get_or ws k (pos 0)) (sym (add_nothing at)) ∙ read-block front (Free junk ∷ back) at 0 (pos 0) split place

    pub free-next : get_or ws (at + 1) (pos 0) ≡ pos (first_free none (at + (length junk + 4)) back)
    free-next = read-block front (Free junk ∷ back) at 1 (pos 0) split place ∙ ap (λ k. pos (first_free none (k + (length junk + 4)) back)) (sym place)

    pub free-prev : get_or ws (at + 2) (pos 0) ≡ pos (last_free none 0 front)
    free-prev = read-block front (Free junk ∷ back) at 2 (pos 0) split place

    -- its last word tells what its first does
    pub free-tail : get_or ws (at + (length junk + 3)) (pos 0) ≡ negsuc (length junk + 3)
    free-tail = read-block front (Free junk ∷ back) at (length junk + 3) (pos 0) split place ∙ last_word junk _ h.rest _ _

    pub free-within : at + (length junk + 4) ≤ end
    free-within = omega (arith, split-ends front (Free junk ∷ back) split)

  -- a live block's words
  module _ (front : List Segment) (content : List ℤ) (pins : ℕ) (back : List Segment) (at : ℕ) (split : segs ≡ front ++ Used content pins ∷ back) (place : at ≡ extent seg_block seg_size front) where
    pub used-head : get_or ws at (pos 0) ≡ pos (length content)
    used-head = ap (λ k. get_or ws k (pos 0)) (sym (add_nothing at)) ∙ read-block front (Used content pins ∷ back) at 0 (pos 0) split place

    pub used-pins : get_or ws (at + 1) (pos 0) ≡ cast_signed w64 pins
    used-pins = read-block front (Used content pins ∷ back) at 1 (pos 0) split place

    pub used-within : at + r (length content) ≤ end
    used-within = omega (arith, split-ends front (Used content pins ∷ back) split)

    pub used-valid : pins < 2 ^ 64
    used-valid = (AreValid-back front (Used content pins ∷ back) (subst AreValid split h.valid)).0

-- the first free block of some segments
pub record FirstFree (none p : ℕ) (ys : List Segment) (at : ℕ) : Type 0 where
  pub lives : List Segment
  pub junk : List ℤ
  pub more : List Segment
  pub split : ys ≡ lives ++ Free junk ∷ more
  pub place : at ≡ p + extent seg_block seg_size lives
  pub small : (n : ℕ) → NoneFits n lives
  pub last : (prev q : ℕ) → last_free prev q lives ≡ prev

pub find-free : (none p : ℕ) (ys : List Segment) (at : ℕ) → at ≡ first_free none p ys → at ≢ none → FirstFree none p ys at
find-free none p [] at e ne = absurd (ne e)
find-free none p (Used ws pins ∷ ys) at e ne =
    let f = find-free none (p + r (length ws)) ys at e ne in
    record {
      lives = Used ws pins ∷ f.lives;
      junk = f.junk;
      more = f.more;
      split = ap (λ l. Used ws pins ∷ l) f.split;
      place = omega (arith, f.place);
      small = λ n. f.small n;
      last = λ prev q. f.last prev (q + r (length ws));
    }
find-free none p (Free junk ∷ ys) at e ne = record {
  lives = [];
  junk = junk;
  more = ys;
  split = refl;
  place = e ∙ sym (add_nothing p);
  small = λ n. tt;
  last = λ prev q. refl;
}

pub NoneFits-append : (n : ℕ) (xs ys : List Segment) → NoneFits n xs → NoneFits n ys → NoneFits n (xs ++ ys)
NoneFits-append n [] ys h k = k
NoneFits-append n (Used ws pins ∷ xs) ys h k = NoneFits-append n xs ys h k
NoneFits-append n (Free junk ∷ xs) ys h k = (h.0, NoneFits-append n xs ys h.1 k)

-- where no free block is left, none fits
pub NoneFits-no_free : (none p n : ℕ) (ys : List Segment) → none ≡ first_free none p ys → p + extent seg_block seg_size ys ≤ none → NoneFits n ys
NoneFits-no_free none p n [] e h = tt
NoneFits-no_free none p n (Used ws pins ∷ ys) e h = NoneFits-no_free none (p + r (length ws)) n ys e (omega arith)
NoneFits-no_free none p n (Free junk ∷ ys) e h = absurd (omega arith)

pub later : (none p : ℕ) (ys : List Segment) → p + extent seg_block seg_size ys ≤ none → (first_free none p ys ≡ none) ⊎ ((p ≤ first_free none p ys) × (first_free none p ys + 4 ≤ none))
later none p [] k = inl refl
later none p (Used c pins ∷ ys) k = elim (later none (p + r (length c)) ys (omega arith)) [ inl e ↦ inl e | inr le ↦ inr (omega (arith, le.0), le.1) ]
later none p (Free junk ∷ ys) k = inr (omega arith, omega arith)

-- the search goes on, and ends
module _ (none n : ℕ) (segs : List Segment) (ws : List ℤ) (first end at : ℕ) (h : Lays none segs ws first end) (fits : end ≤ none) (s : Searches none n segs at) where
  pub search-none : at ≡ none → NoneFits n segs
  search-none e =
      subst (NoneFits n) (sym s.split) (NoneFits-append n s.front s.back s.smaller
      (NoneFits-no_free none (extent seg_block seg_size s.front) n s.back (sym e ∙ s.next) (omega (arith, split-ends none segs ws first end h s.front s.back s.split))))

  module _ (ne : at ≢ none) where
    pub here : FirstFree none (extent seg_block seg_size s.front) s.back at
    here = find-free none (extent seg_block seg_size s.front) s.back at s.next ne

    all : segs ≡ (s.front ++ here.lives) ++ Free here.junk ∷ here.more
    all = s.split ∙ ap (λ l. s.front ++ l) here.split ∙ sym (append_assoc s.front here.lives (Free here.junk ∷ here.more))

    placed : at ≡ extent seg_block seg_size (s.front ++ here.lives)
    placed = here.place ∙ sym (seg-extent-append s.front here.lives)

    smaller : NoneFits n (s.front ++ here.lives)
    smaller = NoneFits-append n s.front here.lives s.smaller (here.small n)

    pub search-size : free_size_of (get_or ws at (pos 0)) ≡ length here.junk + 4
    search-size = ap free_size_of (free-head none segs ws first end h (s.front ++ here.lives) here.junk here.more at all placed) ∙ three_one (length here.junk)

    pub search-within : at + 4 ≤ end
    search-within = omega (arith, free-within none segs ws first end h (s.front ++ here.lives) here.junk here.more at all placed)

    pub search-fits : n ≤ free_size_of (get_or ws at (pos 0)) → FitsAt n segs at
    search-fits le = record {
      front = s.front ++ here.lives;
      junk = here.junk;
      back = here.more;
      split = all;
      place = placed;
      smaller = smaller;
      wide = omega (arith, search-size);
    }

    pub search-next : free_size_of (get_or ws at (pos 0)) < n → Searches none n segs (cast_unsigned w64 (get_or ws (at + 1) (pos 0)))
    search-next lt = record {
      front = (s.front ++ here.lives) ++ Free here.junk ∷ [];
      back = here.more;
      split = all ∙ sym (append_assoc (s.front ++ here.lives) (Free here.junk ∷ []) here.more);
      next = ap (cast_unsigned w64) (free-next none segs ws first end h (s.front ++ here.lives) here.junk here.more at all placed)
          ∙ ap (λ k. first_free none k here.more) (omega (arith, placed, seg-extent-append (s.front ++ here.lives) (Free here.junk ∷ [])));
      smaller = NoneFits-append n (s.front ++ here.lives) (Free here.junk ∷ []) smaller (omega (arith, search-size), tt);
    }

    pub search-later : at < cast_unsigned w64 (get_or ws (at + 1) (pos 0))
    search-later =
        let read = ap (cast_unsigned w64) (free-next none segs ws first end h (s.front ++ here.lives) here.junk here.more at all placed) in
        let ends = split-ends none segs ws first end h (s.front ++ here.lives) (Free here.junk ∷ here.more) all in
        elim (later none (at + (length here.junk + 4)) here.more (omega (arith, ends, placed))) [
          | inl e ↦ omega (arith, read, e, ends, placed)
          | inr le ↦ omega (arith, read, le.0)
        ]

    pub search-bound : cast_unsigned w64 (get_or ws (at + 1) (pos 0)) ≤ none
    search-bound =
        let read = ap (cast_unsigned w64) (free-next none segs ws first end h (s.front ++ here.lives) here.junk here.more at all placed) in
        let ends = split-ends none segs ws first end h (s.front ++ here.lives) (Free here.junk ∷ here.more) all in
        elim (later none (at + (length here.junk + 4)) here.more (omega (arith, ends, placed))) [
          | inl e ↦ omega (arith, read, e)
          | inr le ↦ omega (arith, read, le.1)
        ]
