-- Hints stay hints while blocks are taken and given back.
use Rattle.std.proofs.Common.{◌≡◌, ℕ, ℤ, ◌+◌, ◌<◌, ◌≤◌, ◌&&◌, ◌||◌, true, false, Bool, cond, nat_le, nat_lt, List, [], ◌∷◌, ◌++◌, length, refl, sym, ap, subst, ◌∙◌, arith, append-nil, ◌⊎◌, inl, inr}
use Rattle.std.proofs.lemmas.Bool.Decides.{nat_tests}
use Rattle.f3_heap_laws.specs.Account.{r}
use Rattle.f3_heap_laws.specs.Placed.{extent}
use Rattle.f3_heap_laws.specs.Segments.{Segment, Used, Free, seg_size, seg_block, first_free, NoneFits, FitsAt, Searches, AllFree}
use Rattle.f3_heap_laws.specs.Hints.{HintFrom, moved, lowered}

from_zero : (n : ℕ) → 0 + n ≡ n
from_zero n = omega arith

none_more : (n : ℕ) → n + 0 ≡ n
none_more n = omega arith

assoc : (a b c : ℕ) → (a + b) + c ≡ a + (b + c)
assoc a b c = omega arith

-- the search that begins at a hint
record From (none n at p : ℕ) (segs : List Segment) : Type 0 where
  front : List Segment
  back : List Segment
  split : segs ≡ front ++ back
  next : at ≡ first_free none (p + extent seg_block seg_size front) back
  smaller : NoneFits n front

from : (none n at p : ℕ) (segs : List Segment) → HintFrom none n at p segs → From none n at p segs
from none n at p [] h = record { front = []; back = []; split = refl; next = h; smaller = tt }
from none n at p (Used ws pins ∷ ss) h =
    let f = from none n at (p + r (length ws)) ss h in
    record { front = Used ws pins ∷ f.front; back = f.back; split = ap (λ l. Used ws pins ∷ l) f.split; next = f.next ∙ ap (λ k. first_free none k f.back) (assoc p (r (length ws)) (extent seg_block seg_size f.front)); smaller = f.smaller }
from none n at p (Free junk ∷ ss) (inl e) = record { front = []; back = Free junk ∷ ss; split = refl; next = e ∙ sym (none_more p); smaller = tt }
from none n at p (Free junk ∷ ss) (inr k) =
    let f = from none n at (p + (length junk + 4)) ss k.1 in
    record { front = Free junk ∷ f.front; back = f.back; split = ap (λ l. Free junk ∷ l) f.split; next = f.next ∙ ap (λ k. first_free none k f.back) (assoc p (length junk + 4) (extent seg_block seg_size f.front)); smaller = (k.0, f.smaller) }

pub hint-searches : (none n at : ℕ) (segs : List Segment) → HintFrom none n at 0 segs → Searches none n segs at
hint-searches none n at segs h =
    let f = from none n at 0 segs h in
    record { front = f.front; back = f.back; split = f.split; next = f.next ∙ ap (λ k. first_free none k f.back) (from_zero (extent seg_block seg_size f.front)); smaller = f.smaller }

-- what a search finds is a hint
pub hint-none : (none n p : ℕ) (segs : List Segment) → NoneFits n segs → HintFrom none n none p segs
hint-none none n p [] h = refl
hint-none none n p (Used ws pins ∷ ss) h = hint-none none n (p + r (length ws)) ss h
hint-none none n p (Free junk ∷ ss) h = inr (h.0, hint-none none n (p + (length junk + 4)) ss h.1)

-- behind a part in which none fits
pub hint-behind : (none n at p : ℕ) (xs ys : List Segment) → NoneFits n xs → HintFrom none n at (p + extent seg_block seg_size xs) ys → HintFrom none n at p (xs ++ ys)
hint-behind none n at p [] ys s h = subst (λ (k : ℕ). HintFrom none n at k ys) (none_more p) h
hint-behind none n at p (Used ws pins ∷ xs) ys s h = hint-behind none n at (p + r (length ws)) xs ys s (subst (λ (k : ℕ). HintFrom none n at k ys) (sym (assoc p (r (length ws)) (extent seg_block seg_size xs))) h)
hint-behind none n at p (Free junk ∷ xs) ys s h = inr (s.0, hint-behind none n at (p + (length junk + 4)) xs ys s.1 (subst (λ (k : ℕ). HintFrom none n at k ys) (sym (assoc p (length junk + 4) (extent seg_block seg_size xs))) h))

pub hint-fits : (none n at : ℕ) (segs : List Segment) → FitsAt n segs at → HintFrom none n at 0 segs
hint-fits none n at segs f =
    subst (HintFrom none n at 0) (sym f.split) (hint-behind none n at 0 f.front (Free f.junk ∷ f.back) f.smaller (inl (f.place ∙ sym (from_zero (extent seg_block seg_size f.front)))))

-- a hint serves for wider blocks
pub hint-wider : (none n m at p : ℕ) (segs : List Segment) → n ≤ m → HintFrom none n at p segs → HintFrom none m at p segs
hint-wider none n m at p [] le h = h
hint-wider none n m at p (Used ws pins ∷ ss) le h = hint-wider none n m at (p + r (length ws)) ss le h
hint-wider none n m at p (Free junk ∷ ss) le (inl e) = inl e
hint-wider none n m at p (Free junk ∷ ss) le (inr k) = inr (omega (arith, k.0), hint-wider none n m at (p + (length junk + 4)) ss le k.1)

-- the first free block is a hint
pub hint-first : (none n p : ℕ) (segs : List Segment) → HintFrom none n (first_free none p segs) p segs
hint-first none n p [] = refl
hint-first none n p (Used ws pins ∷ ss) = hint-first none n (p + r (length ws)) ss
hint-first none n p (Free junk ∷ ss) = inl refl

-- where a hint lies
pub hint-place : (none n at p : ℕ) (segs : List Segment) → HintFrom none n at p segs → (at ≡ none) ⊎ ((p ≤ at) × (at + 4 ≤ p + extent seg_block seg_size segs))
hint-place none n at p [] h = inl h
hint-place none n at p (Used ws pins ∷ ss) h = elim (hint-place none n at (p + r (length ws)) ss h) [ inl e ↦ inl e | inr k ↦ inr (omega (arith, k.0), omega (arith, k.1)) ]
hint-place none n at p (Free junk ∷ ss) (inl e) = inr (omega (arith, e), omega (arith, e))
hint-place none n at p (Free junk ∷ ss) (inr k) = elim (hint-place none n at (p + (length junk + 4)) ss k.1) [ inl e ↦ inl e | inr l ↦ inr (omega (arith, l.0), omega (arith, l.1)) ]

-- a hint in a part, whatever stands behind it
pub record HintIn (none n at p : ℕ) (xs : List Segment) : Type 0 where
  pub above : p ≤ at
  pub below : at + 4 ≤ p + extent seg_block seg_size xs
  pub stays : (ys : List Segment) → HintFrom none n at p (xs ++ ys)

in_used : (none n at p : ℕ) (ws : List ℤ) (pins : ℕ) (xs : List Segment) → HintIn none n at (p + r (length ws)) xs → HintIn none n at p (Used ws pins ∷ xs)
in_used none n at p ws pins xs h = record { above = omega (arith, h.above); below = omega (arith, h.below); stays = λ ys. h.stays ys }

in_free : (none n at p : ℕ) (junk : List ℤ) (xs : List Segment) → length junk + 4 < n → HintIn none n at (p + (length junk + 4)) xs → HintIn none n at p (Free junk ∷ xs)
in_free none n at p junk xs lt h = record { above = omega (arith, h.above); below = omega (arith, h.below); stays = λ ys. inr (lt, h.stays ys) }

-- a hint lies in the front, or nothing fits there and it lies behind
pub hint-parts : (none n at p : ℕ) (xs ys : List Segment) → HintFrom none n at p (xs ++ ys) → (HintIn none n at p xs) ⊎ (NoneFits n xs × HintFrom none n at (p + extent seg_block seg_size xs) ys)
hint-parts none n at p [] ys h = inr (tt, subst (λ (k : ℕ). HintFrom none n at k ys) (sym (none_more p)) h)
hint-parts none n at p (Used ws pins ∷ xs) ys h = elim (hint-parts none n at (p + r (length ws)) xs ys h) [
  | inl i ↦ inl (in_used none n at p ws pins xs i)
  | inr k ↦ inr (k.0, subst (λ (q : ℕ). HintFrom none n at q ys) (assoc p (r (length ws)) (extent seg_block seg_size xs)) k.1)
]
hint-parts none n at p (Free junk ∷ xs) ys (inl e) = inl (record { above = omega (arith, e); below = omega (arith, e); stays = λ zs. inl e })
hint-parts none n at p (Free junk ∷ xs) ys (inr h) = elim (hint-parts none n at (p + (length junk + 4)) xs ys h.1) [
  | inl i ↦ inl (in_free none n at p junk xs h.0 i)
  | inr k ↦ inr ((h.0, k.0), subst (λ (q : ℕ). HintFrom none n at q ys) (assoc p (length junk + 4) (extent seg_block seg_size xs)) k.1)
]

-- a live block more behind all others
pub hint-longer : (none n at p : ℕ) (segs : List Segment) (content : List ℤ) (pins : ℕ) → HintFrom none n at p segs → HintFrom none n at p (segs ++ Used content pins ∷ [])
hint-longer none n at p [] content pins h = h
hint-longer none n at p (Used ws k ∷ ss) content pins h = hint-longer none n at (p + r (length ws)) ss content pins h
hint-longer none n at p (Free junk ∷ ss) content pins (inl e) = inl e
hint-longer none n at p (Free junk ∷ ss) content pins (inr k) = inr (k.0, hint-longer none n at (p + (length junk + 4)) ss content pins k.1)

-- another content of the same length
pub hint-changed : (none n at p : ℕ) (front back : List Segment) (old new : List ℤ) (k l : ℕ) → length new ≡ length old → HintFrom none n at p (front ++ Used old k ∷ back) → HintFrom none n at p (front ++ Used new l ∷ back)
hint-changed none n at p [] back old new k l e h = subst (λ (m : ℕ). HintFrom none n at (p + r m) back) (sym e) h
hint-changed none n at p (Used ws j ∷ ss) back old new k l e h = hint-changed none n at (p + r (length ws)) ss back old new k l e h
hint-changed none n at p (Free junk ∷ ss) back old new k l e (inl i) = inl i
hint-changed none n at p (Free junk ∷ ss) back old new k l e (inr h) = inr (h.0, hint-changed none n at (p + (length junk + 4)) ss back old new k l e h.1)

-- no free block behind: the front alone
pub hint-front : (none n at p : ℕ) (front : List Segment) (content : List ℤ) (pins : ℕ) → HintFrom none n at p (front ++ Used content pins ∷ []) → HintFrom none n at p front
hint-front none n at p [] content pins h = h
hint-front none n at p (Used ws j ∷ ss) content pins h = hint-front none n at (p + r (length ws)) ss content pins h
hint-front none n at p (Free junk ∷ ss) content pins (inl i) = inl i
hint-front none n at p (Free junk ∷ ss) content pins (inr h) = inr (h.0, hint-front none n at (p + (length junk + 4)) ss content pins h.1)

-- the tests
move_in : (from until to at : ℕ) → from ≤ at → at < until → moved from until to at ≡ to
move_in from until to at le lt =
    let a : nat_le from at ≡ true = grind (arith, nat_tests) in
    let b : nat_lt at until ≡ true = grind (arith, nat_tests) in
    λ i. cond (a i && b i) to at

move_before : (from until to at : ℕ) → at < from → moved from until to at ≡ at
move_before from until to at lt =
    let a : nat_le from at ≡ false = grind (arith, nat_tests) in
    λ i. cond (a i && nat_lt at until) to at

no_second : (t : Bool) (x y : ℕ) → cond (t && false) x y ≡ y
no_second true x y = refl
no_second false x y = refl

move_past : (from until to at : ℕ) → until ≤ at → moved from until to at ≡ at
move_past from until to at le =
    let b : nat_lt at until ≡ false = grind (arith, nat_tests) in
    ap (λ t. cond (nat_le from at && t) to at) b ∙ no_second (nat_le from at) to at

-- the front of a free block was cut
module _ (none n at size next p : ℕ) (front left back : List Segment) (junk content : List ℤ) (pins : ℕ) (place : at ≡ extent seg_block seg_size front) (below : at < none)
    (same : r (length content) ≡ size) (sizes : size + extent seg_block seg_size left ≡ length junk + 4) (free : AllFree left) (behind : next ≡ first_free none (at + size) (left ++ back)) where
  left_small : (m : ℕ) (ls : List Segment) → AllFree ls → extent seg_block seg_size ls < m → NoneFits m ls
  left_small m [] f h = tt
  left_small m (Used c k ∷ ls) f h = absurd f
  left_small m (Free more ∷ ls) f h = (omega arith, left_small m ls f (omega arith))

  place_is : (k : ℕ) → k ≡ size → 0 + extent seg_block seg_size front + k ≡ at + size
  place_is k e = omega (arith, place)

  pub hint-cut : HintFrom none n p 0 (front ++ (Free junk ∷ back)) → HintFrom none n (moved at (at + 1) next p) 0 (front ++ (Used content pins ∷ (left ++ back)))
  hint-cut h = elim (hint-parts none n p 0 front (Free junk ∷ back) h) [
    | inl i ↦ subst (λ (k : ℕ). HintFrom none n k 0 (front ++ (Used content pins ∷ (left ++ back)))) (sym (move_before at (at + 1) next p (omega (arith, i.below, place)))) (i.stays (Used content pins ∷ (left ++ back)))
    | inr s ↦ elim s.1 [
      | inl e ↦
          subst (λ (k : ℕ). HintFrom none n k 0 (front ++ (Used content pins ∷ (left ++ back)))) (sym (move_in at (at + 1) next p (omega (arith, e, place)) (omega (arith, e, place)) ∙ behind))
          (hint-behind none n _ 0 front (Used content pins ∷ (left ++ back)) s.0
          (subst (λ (q : ℕ). HintFrom none n (first_free none (at + size) (left ++ back)) q (left ++ back)) (sym (place_is (r (length content)) same)) (hint-first none n (at + size) (left ++ back))))
      | inr k ↦
          let past : at + 1 ≤ p = elim (hint-place none n p _ back k.1) [ inl e ↦ omega (arith, e, below) | inr l ↦ omega (arith, l.0, place) ] in
          subst (λ (j : ℕ). HintFrom none n j 0 (front ++ (Used content pins ∷ (left ++ back)))) (sym (move_past at (at + 1) next p past))
          (hint-behind none n p 0 front (Used content pins ∷ (left ++ back)) s.0
          (hint-behind none n p _ left back (left_small n left free (omega (arith, k.0, sizes)))
          (subst (λ (q : ℕ). HintFrom none n p q back) (omega (arith, sizes, same)) k.1)))
    ]
  ]

-- what stands behind `front` went away
pub hint-closed : (none n at p : ℕ) (front back : List Segment) → at ≡ extent seg_block seg_size front → at + extent seg_block seg_size back ≤ none → HintFrom none n p 0 (front ++ back) → HintFrom none n (moved at none none p) 0 front
hint-closed none n at p front back place fits h = elim (hint-parts none n p 0 front back h) [
  | inl i ↦ subst (λ (k : ℕ). HintFrom none n k 0 front) (sym (move_before at none none p (omega (arith, i.below, place)))) (subst (HintFrom none n p 0) (append-nil front) (i.stays []))
  | inr s ↦ elim (hint-place none n p _ back s.1) [
    | inl e ↦ subst (λ (k : ℕ). HintFrom none n k 0 front) (sym e ∙ sym (move_past at none none p (omega (arith, e)))) (hint-none none n 0 front s.0)
    | inr l ↦ subst (λ (k : ℕ). HintFrom none n k 0 front) (sym (move_in at none none p (omega (arith, l.0, place)) (omega (arith, l.1, place, fits)))) (hint-none none n 0 front s.0)
  ]
]

-- the parts in the middle became one free block
data Lowers (n start size at : ℕ) : Type 0 where
  lowers : lowered n start size at ≡ start → Lowers n start size at
  keeps : lowered n start size at ≡ at → size < n → start + size ≤ at → Lowers n start size at

lower_or : (n start size at : ℕ) → start ≤ at → Lowers n start size at
lower_or n start size at le =
    let a : nat_le start at ≡ true = grind (arith, nat_tests) in
    let first : lowered n start size at ≡ cond (nat_le n size || nat_lt at (start + size)) start at = ap (λ t. cond (t && (nat_le n size || nat_lt at (start + size))) start at) a in
    elim (nat_le n size) as (λ s. nat_le n size ≡ s → Lowers n start size at) [
      | true ↦ λ e. lowers (first ∙ ap (λ t. cond (t || nat_lt at (start + size)) start at) e)
      | false ↦ λ e. elim (nat_lt at (start + size)) as (λ s. nat_lt at (start + size) ≡ s → Lowers n start size at) [
        | true ↦ λ f. lowers (first ∙ (λ i. cond (e i || f i) start at))
        | false ↦ λ f. keeps (first ∙ (λ i. cond (e i || f i) start at)) (grind (arith, nat_tests)) (grind (arith, nat_tests))
      ] refl
    ] refl

lower_before : (n start size at : ℕ) → at < start → lowered n start size at ≡ at
lower_before n start size at lt =
    let a : nat_le start at ≡ false = grind (arith, nat_tests) in
    ap (λ t. cond (t && (nat_le n size || nat_lt at (start + size))) start at) a

module _ (none n start size p : ℕ) (front mid back : List Segment) (junk : List ℤ) (place : start ≡ extent seg_block seg_size front) (sizes : size ≡ extent seg_block seg_size mid) (len : length junk + 4 ≡ size) (fits : start + size ≤ none) where
  joined_keeps : NoneFits n front → size < n → start + size ≤ p → HintFrom none n p (0 + extent seg_block seg_size front) (mid ++ back) → HintFrom none n p 0 (front ++ (Free junk ∷ back))
  joined_keeps s lt past h = elim (hint-parts none n p _ mid back h) [
    | inl i ↦ absurd (omega (arith, i.below, place, sizes))
    | inr k ↦ hint-behind none n p 0 front (Free junk ∷ back) s (inr (omega (arith, len), subst (λ (q : ℕ). HintFrom none n p q back) (omega (arith, len, sizes)) k.1))
  ]

  joined_behind : Lowers n start size p → NoneFits n front → HintFrom none n p (0 + extent seg_block seg_size front) (mid ++ back) → HintFrom none n (lowered n start size p) 0 (front ++ (Free junk ∷ back))
  joined_behind (lowers e) s h =
      subst (λ (k : ℕ). HintFrom none n k 0 (front ++ (Free junk ∷ back))) (sym e) (hint-behind none n start 0 front (Free junk ∷ back) s (inl (place ∙ sym (from_zero (extent seg_block seg_size front)))))
  joined_behind (keeps e lt past) s h =
      subst (λ (k : ℕ). HintFrom none n k 0 (front ++ (Free junk ∷ back))) (sym e) (joined_keeps s lt past h)

  pub hint-joined : HintFrom none n p 0 (front ++ (mid ++ back)) → HintFrom none n (lowered n start size p) 0 (front ++ (Free junk ∷ back))
  hint-joined h = elim (hint-parts none n p 0 front (mid ++ back) h) [
    | inl i ↦ subst (λ (k : ℕ). HintFrom none n k 0 (front ++ (Free junk ∷ back))) (sym (lower_before n start size p (omega (arith, i.below, place)))) (i.stays (Free junk ∷ back))
    | inr s ↦ joined_behind (lower_or n start size p (elim (hint-place none n p _ (mid ++ back) s.1) [ inl e ↦ omega (arith, e, fits) | inr l ↦ omega (arith, l.0, place) ])) s.0 s.1
  ]
