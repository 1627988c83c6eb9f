-- A part of the segments is replaced: what its words, its links and the first free block become.
use Rattle.std.proofs.Common.{◌≡◌, ℕ, ℤ, pos, negsuc, zero, suc, ◌+◌, ◌-◌, ◌^◌, ◌<◌, ◌≤◌, true, false, cond, nat_eq, List, [], ◌∷◌, ◌++◌, length, take, drop, set, replicate, refl, sym, ap, ◌∙◌, arith, append_assoc, length-append, ◌⊎◌, inl, inr}
use Rattle.std.proofs.lemmas.List.{set-append_left, take_at, drop_at}
use Rattle.std.proofs.lemmas.Bool.Decides.{nat_tests}
use mir.Syntax.{w64}
use Rattle.std.proofs.lemmas.Int.{of_z-to_z}
use Rattle.f3_heap_laws.specs.Account.{r}
use Rattle.f3_heap_laws.specs.Placed.{extent}
use Rattle.f3_heap_laws.specs.Segments.{Segment, Used, Free, seg_size, seg_block, used_words, free_words, first_free, last_free, cells, AreValid, segment_at, read_segments, segments, Lays, with_next, with_prev}
use Rattle.f3_heap_laws.proofs.Segs.{seg_positive, length-used_words, length-free_words, length-cells, first_free-append, cells-append, NextLink, no_next, next_at, PrevLink, no_prev, prev_at, next_link, prev_link, set-append_right}

same_test : (n : ℕ) → nat_eq n n ≡ true
same_test n = grind (arith, nat_tests)

apart_test : (m n : ℕ) → m < n → nat_eq m n ≡ false
apart_test m n h = grind (arith, nat_tests)

from_zero : (n : ℕ) → 0 + n ≡ n
from_zero n = omega arith

plus_one : (m k : ℕ) → m ≡ k → m + 1 ≡ k + 1
plus_one m k e = omega arith

plus_two : (m base k : ℕ) → m ≡ base + k → m + 2 ≡ base + (k + 2)
plus_two m base k e = omega arith

-- the words of a segment that begins the rest
used-spelled : (ws : List ℤ) (pins : ℕ) (rest : List ℤ) → pins < 2 ^ 64 → segment_at (pos (length ws)) (used_words ws pins ++ rest) ≡ Used ws pins
used-spelled ws pins rest h = λ i. Used ((ap (take (length ws)) (append_assoc ws (replicate (r (length ws) - (length ws + 3)) (pos 0) ++ pos (length ws) ∷ []) rest) ∙ take_at ws _ (length ws) refl) i) ((of_z-to_z w64 pins h) i)

three : (n : ℕ) → (n + 3) - 3 ≡ n
three n = omega arith

free-spelled : (junk : List ℤ) (next prev : ℕ) (rest : List ℤ) → segment_at (negsuc (length junk + 3)) (free_words junk next prev ++ rest) ≡ Free junk
free-spelled junk next prev rest = λ i. Free ((ap (λ k. take k ((junk ++ negsuc (length junk + 3) ∷ []) ++ rest)) (three (length junk)) ∙ ap (take (length junk)) (append_assoc junk (negsuc (length junk + 3) ∷ []) rest) ∙ take_at junk _ (length junk) refl) i)

-- the words of segments spell those segments
pub read-cells : (n prev after p : ℕ) (ss : List Segment) → length ss ≤ n → AreValid ss → read_segments n (cells prev after p ss) ≡ ss
read-cells n prev after p [] h v = refl
read-cells zero prev after p (s ∷ ss) h v = absurd (omega arith)
read-cells (suc n) prev after p (Used ws pins ∷ ss) h v =
    ap (λ s. s ∷ read_segments n (drop (seg_size s) (used_words ws pins ++ cells prev after (p + r (length ws)) ss))) (used-spelled ws pins _ v.0)
    ∙ ap (λ l. Used ws pins ∷ read_segments n l) (drop_at (used_words ws pins) (cells prev after (p + r (length ws)) ss) (r (length ws)) (length-used_words ws pins))
    ∙ ap (λ l. Used ws pins ∷ l) (read-cells n prev after (p + r (length ws)) ss (omega arith) v.1)
read-cells (suc n) prev after p (Free junk ∷ ss) h v =
    ap (λ s. s ∷ read_segments n (drop (seg_size s) (free_words junk (first_free after (p + (length junk + 4)) ss) prev ++ cells p after (p + (length junk + 4)) ss))) (free-spelled junk (first_free after (p + (length junk + 4)) ss) prev (cells p after (p + (length junk + 4)) ss))
    ∙ ap (λ l. Free junk ∷ read_segments n l) (drop_at (free_words junk (first_free after (p + (length junk + 4)) ss) prev) (cells p after (p + (length junk + 4)) ss) (length junk + 4) (length-free_words junk (first_free after (p + (length junk + 4)) ss) prev))
    ∙ ap (λ l. Free junk ∷ l) (read-cells n p after (p + (length junk + 4)) ss (omega arith) v.1)

pub count-extent : (ss : List Segment) → length ss ≤ extent seg_block seg_size ss
count-extent [] = omega arith
count-extent (s ∷ ss) = omega (arith, seg_positive s, count-extent ss)

pub segments-lays : (none : ℕ) (segs : List Segment) (ws : List ℤ) (first end : ℕ) → Lays none segs ws first end → segments ws end ≡ segs
unfolding segments
segments-lays none segs ws first end h =
    let len = length-cells none none 0 segs in
    let all = ap length h.laid ∙ length-append (cells none none 0 segs) h.rest in
    ap (read_segments (length ws)) (ap (take end) h.laid ∙ take_at (cells none none 0 segs) h.rest end (len ∙ sym h.ends))
    ∙ read-cells (length ws) none none 0 segs (omega (arith, count-extent segs, len, all)) h.valid

-- the words in three parts
pub cells-parts : (none : ℕ) (xs ms ys : List Segment) → cells none none 0 (xs ++ (ms ++ ys))
    ≡ cells none (first_free (first_free none (extent seg_block seg_size xs + extent seg_block seg_size ms) ys) (extent seg_block seg_size xs) ms) 0 xs
    ++ (cells (last_free none 0 xs) (first_free none (extent seg_block seg_size xs + extent seg_block seg_size ms) ys) (extent seg_block seg_size xs) ms
    ++ cells (last_free (last_free none 0 xs) (extent seg_block seg_size xs) ms) none (extent seg_block seg_size xs + extent seg_block seg_size ms) ys)
cells-parts none xs ms ys =
    cells-append none none 0 xs (ms ++ ys)
    ∙ ap (λ k. cells none (first_free none k (ms ++ ys)) 0 xs ++ cells (last_free none 0 xs) none k (ms ++ ys)) (from_zero (extent seg_block seg_size xs))
    ∙ ap (λ a. cells none a 0 xs ++ cells (last_free none 0 xs) none (extent seg_block seg_size xs) (ms ++ ys)) (first_free-append none (extent seg_block seg_size xs) ms ys)
    ∙ ap (λ l. cells none (first_free (first_free none (extent seg_block seg_size xs + extent seg_block seg_size ms) ys) (extent seg_block seg_size xs) ms) 0 xs ++ l) (cells-append (last_free none 0 xs) none (extent seg_block seg_size xs) ms ys)

module _ (none : ℕ) (xs : List Segment) (a b : ℕ) (after : List ℤ) (fits : extent seg_block seg_size xs ≤ none) where
  next_words : NextLink none 0 xs → with_next (cells none a 0 xs ++ after) none (last_free none 0 xs) b ≡ cells none b 0 xs ++ after
  next_words (no_next l f c) = ap (λ t. cond t (cells none a 0 xs ++ after) (set (cells none a 0 xs ++ after) (last_free none 0 xs + 1) (pos b))) (ap (λ k. nat_eq k none) l ∙ same_test none) ∙ ap (λ z. z ++ after) (c a b)
  next_words (next_at k l below f c) =
      ap (λ t. cond t (cells none a 0 xs ++ after) (set (cells none a 0 xs ++ after) (last_free none 0 xs + 1) (pos b))) (apart_test (last_free none 0 xs) none (omega arith))
      ∙ ap (λ i. set (cells none a 0 xs ++ after) i (pos b)) (plus_one (last_free none 0 xs) k (l ∙ from_zero k))
      ∙ set-append_left (cells none a 0 xs) after (k + 1) (pos b) (omega (arith, length-cells none a 0 xs))
      ∙ ap (λ z. z ++ after) (sym (c a b))

  next_first : NextLink none 0 xs → cond (nat_eq (last_free none 0 xs) none) b (first_free a 0 xs) ≡ first_free b 0 xs
  next_first (no_next l f c) = ap (λ t. cond t b (first_free a 0 xs)) (ap (λ k. nat_eq k none) l ∙ same_test none) ∙ sym (f b)
  next_first (next_at k l below f c) = ap (λ t. cond t b (first_free a 0 xs)) (apart_test (last_free none 0 xs) none (omega arith)) ∙ f a b

  -- another next link behind xs
  pub relink-next : with_next (cells none a 0 xs ++ after) none (last_free none 0 xs) b ≡ cells none b 0 xs ++ after
  relink-next = next_words (next_link none 0 xs)

  pub refirst : cond (nat_eq (last_free none 0 xs) none) b (first_free a 0 xs) ≡ first_free b 0 xs
  refirst = next_first (next_link none 0 xs)

  last_within : NextLink none 0 xs → (last_free none 0 xs ≡ none) ⊎ (last_free none 0 xs + 4 ≤ extent seg_block seg_size xs)
  last_within (no_next l f c) = inl l
  last_within (next_at k l below f c) = inr (omega arith)

  pub last-within : (last_free none 0 xs ≡ none) ⊎ (last_free none 0 xs + 4 ≤ extent seg_block seg_size xs)
  last-within = last_within (next_link none 0 xs)

module _ (none base : ℕ) (ys : List Segment) (a b : ℕ) (before after : List ℤ) (at : length before ≡ base) (fits : base + extent seg_block seg_size ys ≤ none) where
  prev_words : PrevLink none base ys → with_prev (before ++ (cells a none base ys ++ after)) none (first_free none base ys) b ≡ before ++ (cells b none base ys ++ after)
  prev_words (no_prev l f c) = ap (λ t. cond t (before ++ (cells a none base ys ++ after)) (set (before ++ (cells a none base ys ++ after)) (first_free none base ys + 2) (pos b))) (ap (λ k. nat_eq k none) l ∙ same_test none) ∙ ap (λ z. before ++ (z ++ after)) (c a b)
  prev_words (prev_at k l below f c) =
      ap (λ t. cond t (before ++ (cells a none base ys ++ after)) (set (before ++ (cells a none base ys ++ after)) (first_free none base ys + 2) (pos b))) (apart_test (first_free none base ys) none (omega arith))
      ∙ ap (λ i. set (before ++ (cells a none base ys ++ after)) i (pos b)) (plus_two (first_free none base ys) base k l)
      ∙ set-append_right before (cells a none base ys ++ after) base (k + 2) (pos b) at
      ∙ ap (λ z. before ++ z) (set-append_left (cells a none base ys) after (k + 2) (pos b) (omega (arith, length-cells a none base ys)) ∙ ap (λ z. z ++ after) (sym (c a b)))

  -- another previous link before ys
  pub relink-prev : with_prev (before ++ (cells a none base ys ++ after)) none (first_free none base ys) b ≡ before ++ (cells b none base ys ++ after)
  relink-prev = prev_words (prev_link none base ys)

  first_within : PrevLink none base ys → (first_free none base ys ≡ none) ⊎ ((base ≤ first_free none base ys) × (first_free none base ys + 4 ≤ base + extent seg_block seg_size ys))
  first_within (no_prev l f c) = inl l
  first_within (prev_at k l below f c) = inr (omega arith, omega arith)

  pub first-within : (first_free none base ys ≡ none) ⊎ ((base ≤ first_free none base ys) × (first_free none base ys + 4 ≤ base + extent seg_block seg_size ys))
  first-within = first_within (prev_link none base ys)
