-- Segments as words: their lengths, their parts, and how the links change where a part is replaced.
use Rattle.std.proofs.Common.{◌≡◌, ℕ, ℤ, pos, negsuc, zero, suc, ◌+◌, ◌-◌, ◌%◌, ◌<◌, ◌≤◌, List, [], ◌∷◌, ◌++◌, length, set, replicate, refl, sym, ap, ◌∙◌, arith, append_assoc, length-append}
use Rattle.std.proofs.lemmas.List.{length-replicate}
use Rattle.f3_heap_laws.specs.Account.{r}
use Rattle.f3_heap_laws.specs.Placed.{extent}
use Rattle.f3_heap_laws.specs.Segments.{Segment, Used, Free, seg_size, seg_block, used_words, free_words, first_free, last_free, cells, AreValid}

pub r-above : (w : ℕ) → w + 3 ≤ r w
r-above w = omega arith

pub r-fours : (w : ℕ) → r w % 4 ≡ 0
r-fours w = omega arith

pub seg_positive : (s : Segment) → 0 < seg_size s
seg_positive (Used ws pins) = omega (arith, r-above (length ws))
seg_positive (Free junk) = omega arith

pub length-used_words : (ws : List ℤ) (pins : ℕ) → length (used_words ws pins) ≡ r (length ws)
length-used_words ws pins =
    omega (arith, length-append ws (replicate (r (length ws) - (length ws + 3)) (pos 0) ++ pos (length ws) ∷ []), length-append (replicate (r (length ws) - (length ws + 3)) (pos 0)) (pos (length ws) ∷ []), length-replicate (r (length ws) - (length ws + 3)) (pos 0), r-above (length ws))

pub length-free_words : (junk : List ℤ) (next prev : ℕ) → length (free_words junk next prev) ≡ length junk + 4
length-free_words junk next prev = omega (arith, length-append junk (negsuc (length junk + 3) ∷ []))

pub length-cells : (prev after p : ℕ) (ss : List Segment) → length (cells prev after p ss) ≡ extent seg_block seg_size ss
length-cells prev after p [] = refl
length-cells prev after p (Used ws pins ∷ ss) =
    omega (arith, length-append (used_words ws pins) (cells prev after (p + r (length ws)) ss), length-used_words ws pins, length-cells prev after (p + r (length ws)) ss)
length-cells prev after p (Free junk ∷ ss) =
    omega (arith, length-append (free_words junk (first_free after (p + (length junk + 4)) ss) prev) (cells p after (p + (length junk + 4)) ss), length-free_words junk (first_free after (p + (length junk + 4)) ss) prev, length-cells p after (p + (length junk + 4)) ss)

assoc : (a b c : ℕ) → (a + b) + c ≡ a + (b + c)
assoc a b c = omega arith

pub first_free-append : (after p : ℕ) (xs ys : List Segment) → first_free after p (xs ++ ys) ≡ first_free (first_free after (p + extent seg_block seg_size xs) ys) p xs
first_free-append after p [] ys = ap (λ k. first_free after k ys) (omega arith)
first_free-append after p (Used ws pins ∷ xs) ys =
    first_free-append after (p + r (length ws)) xs ys ∙ ap (λ k. first_free (first_free after k ys) (p + r (length ws)) xs) (assoc p (r (length ws)) _)
first_free-append after p (Free junk ∷ xs) ys = refl

pub last_free-append : (prev p : ℕ) (xs ys : List Segment) → last_free prev p (xs ++ ys) ≡ last_free (last_free prev p xs) (p + extent seg_block seg_size xs) ys
last_free-append prev p [] ys = ap (λ k. last_free prev k ys) (omega arith)
last_free-append prev p (Used ws pins ∷ xs) ys =
    last_free-append prev (p + r (length ws)) xs ys ∙ ap (λ k. last_free (last_free prev (p + r (length ws)) xs) k ys) (assoc p (r (length ws)) _)
last_free-append prev p (Free junk ∷ xs) ys =
    last_free-append p (p + (length junk + 4)) xs ys ∙ ap (λ k. last_free (last_free p (p + (length junk + 4)) xs) k ys) (assoc p (length junk + 4) _)

pub cells-append : (prev after p : ℕ) (xs ys : List Segment) → cells prev after p (xs ++ ys)
    ≡ cells prev (first_free after (p + extent seg_block seg_size xs) ys) p xs ++ cells (last_free prev p xs) after (p + extent seg_block seg_size xs) ys
cells-append prev after p [] ys = ap (λ k. cells prev after k ys) (omega arith)
cells-append prev after p (Used ws pins ∷ xs) ys =
    ap (λ l. used_words ws pins ++ l) (cells-append prev after (p + r (length ws)) xs ys
    ∙ ap (λ k. cells prev (first_free after k ys) (p + r (length ws)) xs ++ cells (last_free prev (p + r (length ws)) xs) after k ys) (assoc p (r (length ws)) _))
    ∙ sym (append_assoc (used_words ws pins) _ _)
cells-append prev after p (Free junk ∷ xs) ys =
    ap (λ k. free_words junk k prev ++ cells p after (p + (length junk + 4)) (xs ++ ys)) (first_free-append after (p + (length junk + 4)) xs ys)
    ∙ ap (λ l. free_words junk (first_free (first_free after ((p + (length junk + 4)) + extent seg_block seg_size xs) ys) (p + (length junk + 4)) xs) prev ++ l) (cells-append p after (p + (length junk + 4)) xs ys)
    ∙ ap (λ k. free_words junk (first_free (first_free after k ys) (p + (length junk + 4)) xs) prev ++ (cells p (first_free after k ys) (p + (length junk + 4)) xs ++ cells (last_free p (p + (length junk + 4)) xs) after k ys)) (assoc p (length junk + 4) _)
    ∙ sym (append_assoc (free_words junk (first_free (first_free after (p + (length junk + 4 + extent seg_block seg_size xs)) ys) (p + (length junk + 4)) xs) prev) _ _)

add_zero : (n : ℕ) → n + 0 ≡ n
add_zero n = omega arith

suc-add : (n k : ℕ) → suc n + k ≡ suc (n + k)
suc-add n k = omega arith

-- what another `after` changes: the next link of the last free block, or nothing
pub data NextLink (prev p : ℕ) (xs : List Segment) : Type 0 where
  no_next : last_free prev p xs ≡ prev → ((a : ℕ) → first_free a p xs ≡ a) → ((a b : ℕ) → cells prev a p xs ≡ cells prev b p xs) → NextLink prev p xs
  next_at : (k : ℕ) → last_free prev p xs ≡ p + k → k + 4 ≤ extent seg_block seg_size xs → ((a b : ℕ) → first_free a p xs ≡ first_free b p xs) → ((a b : ℕ) → cells prev b p xs ≡ set (cells prev a p xs) (k + 1) (pos b)) → NextLink prev p xs

-- what another `prev` changes: the previous link of the first free block, or nothing
pub data PrevLink (after p : ℕ) (xs : List Segment) : Type 0 where
  no_prev : first_free after p xs ≡ after → ((a : ℕ) → last_free a p xs ≡ a) → ((a b : ℕ) → cells a after p xs ≡ cells b after p xs) → PrevLink after p xs
  prev_at : (k : ℕ) → first_free after p xs ≡ p + k → k + 4 ≤ extent seg_block seg_size xs → ((a b : ℕ) → last_free a p xs ≡ last_free b p xs) → ((a b : ℕ) → cells b after p xs ≡ set (cells a after p xs) (k + 2) (pos b)) → PrevLink after p xs

pub set-append_right : (xs ys : List ℤ) (n k : ℕ) (v : ℤ) → length xs ≡ n → set (xs ++ ys) (n + k) v ≡ xs ++ set ys k v
set-append_right [] ys n k v e = ap (λ m. set ys m v) (omega arith)
set-append_right (x ∷ xs) ys zero k v e = absurd (omega arith)
set-append_right (x ∷ xs) ys (suc n) k v e = rw (suc-add n k) (ap (λ l. x ∷ l) (set-append_right xs ys n k v (omega arith)))

next_used : (prev p : ℕ) (ws : List ℤ) (pins : ℕ) (xs : List Segment) → NextLink prev (p + r (length ws)) xs → NextLink prev p (Used ws pins ∷ xs)
next_used prev p ws pins xs (no_next l f c) = no_next l f (λ a b. ap (λ z. used_words ws pins ++ z) (c a b))
next_used prev p ws pins xs (next_at k l fits f c) =
    next_at (r (length ws) + k) (l ∙ assoc p (r (length ws)) k) (omega arith) f
    (λ a b. ap (λ z. used_words ws pins ++ z) (c a b) ∙ sym (set-append_right (used_words ws pins) _ (r (length ws)) (k + 1) (pos b) (length-used_words ws pins)) ∙ ap (λ i. set (used_words ws pins ++ cells prev a (p + r (length ws)) xs) i (pos b)) (sym (assoc (r (length ws)) k 1)))

next_free : (prev p : ℕ) (junk : List ℤ) (xs : List Segment) → NextLink p (p + (length junk + 4)) xs → NextLink prev p (Free junk ∷ xs)
next_free prev p junk xs (no_next l f c) =
    next_at 0 (l ∙ sym (add_zero p)) (omega arith) (λ a b. refl)
    (λ a b. ap (λ n. free_words junk n prev ++ cells p b (p + (length junk + 4)) xs) (f b)
    ∙ ap (λ z. free_words junk b prev ++ z) (c b a)
    ∙ ap (λ n. set (free_words junk n prev ++ cells p a (p + (length junk + 4)) xs) 1 (pos b)) (sym (f a)))
next_free prev p junk xs (next_at k l fits f c) =
    next_at ((length junk + 4) + k) (l ∙ assoc p (length junk + 4) k) (omega arith) (λ a b. refl)
    (λ a b. ap (λ n. free_words junk n prev ++ cells p b (p + (length junk + 4)) xs) (f b a)
    ∙ ap (λ z. free_words junk (first_free a (p + (length junk + 4)) xs) prev ++ z) (c a b)
    ∙ sym (set-append_right (free_words junk (first_free a (p + (length junk + 4)) xs) prev) _ (length junk + 4) (k + 1) (pos b) (length-free_words junk (first_free a (p + (length junk + 4)) xs) prev))
    ∙ ap (λ i. set (free_words junk (first_free a (p + (length junk + 4)) xs) prev ++ cells p a (p + (length junk + 4)) xs) i (pos b)) (sym (assoc (length junk + 4) k 1)))

pub next_link : (prev p : ℕ) (xs : List Segment) → NextLink prev p xs
next_link prev p [] = no_next refl (λ a. refl) (λ a b. refl)
next_link prev p (Used ws pins ∷ xs) = next_used prev p ws pins xs (next_link prev (p + r (length ws)) xs)
next_link prev p (Free junk ∷ xs) = next_free prev p junk xs (next_link p (p + (length junk + 4)) xs)

prev_used : (after p : ℕ) (ws : List ℤ) (pins : ℕ) (xs : List Segment) → PrevLink after (p + r (length ws)) xs → PrevLink after p (Used ws pins ∷ xs)
prev_used after p ws pins xs (no_prev l f c) = no_prev l f (λ a b. ap (λ z. used_words ws pins ++ z) (c a b))
prev_used after p ws pins xs (prev_at k l fits f c) =
    prev_at (r (length ws) + k) (l ∙ assoc p (r (length ws)) k) (omega arith) f
    (λ a b. ap (λ z. used_words ws pins ++ z) (c a b) ∙ sym (set-append_right (used_words ws pins) _ (r (length ws)) (k + 2) (pos b) (length-used_words ws pins)) ∙ ap (λ i. set (used_words ws pins ++ cells a after (p + r (length ws)) xs) i (pos b)) (sym (assoc (r (length ws)) k 2)))

pub prev_link : (after p : ℕ) (xs : List Segment) → PrevLink after p xs
prev_link after p [] = no_prev refl (λ a. refl) (λ a b. refl)
prev_link after p (Used ws pins ∷ xs) = prev_used after p ws pins xs (prev_link after (p + r (length ws)) xs)
prev_link after p (Free junk ∷ xs) = prev_at 0 (sym (add_zero p)) (omega arith) (λ a b. refl) (λ a b. refl)

pub AreValid-append : (xs ys : List Segment) → AreValid xs → AreValid ys → AreValid (xs ++ ys)
AreValid-append [] ys h k = k
AreValid-append (x ∷ xs) ys h k = (h.0, AreValid-append xs ys h.1 k)

pub AreValid-front : (xs ys : List Segment) → AreValid (xs ++ ys) → AreValid xs
AreValid-front [] ys h = tt
AreValid-front (x ∷ xs) ys h = (h.0, AreValid-front xs ys h.1)

pub AreValid-back : (xs ys : List Segment) → AreValid (xs ++ ys) → AreValid ys
AreValid-back [] ys h = h
AreValid-back (x ∷ xs) ys h = AreValid-back xs ys h.1
