-- The free blocks beside a live one, and those before and behind it in the list.
use Rattle.std.proofs.Common.{◌≡◌, ◌≢◌, ℕ, ℤ, pos, negsuc, ◌+◌, ◌-◌, ◌<◌, ◌≤◌, Bool, true, false, List, [], ◌∷◌, ◌++◌, length, take, get_or, replicate, refl, sym, ap, subst, ◌∙◌, arith, append_assoc, length-append, ◌⊎◌, inl, inr}
use Rattle.std.proofs.lemmas.List.{get_or_at, take_at, length-replicate, get_or-set_same, get_or_append_left}
use mir.Syntax.{w64}
use Rattle.std.specs.Int.{cast_signed, cast_unsigned}
use Rattle.f3_heap_laws.specs.Account.{r}
use Rattle.f3_heap_laws.specs.Placed.{extent}
use Rattle.f3_heap_laws.specs.Segments.{Segment, Used, Free, seg_size, seg_block, used_words, free_words, first_free, last_free, cells, AreValid, Lays, header, free_size_of, ends_free, AreApart, BeginsLive, Around, Walks, segments, read_segments}
use Rattle.f3_heap_laws.proofs.Segs.{r-above, seg_positive, length-cells, first_free-append, last_free-append, AreValid-front, NextLink, no_next, next_at, next_link}
use Rattle.f3_heap_laws.proofs.Relink.{read-cells, count-extent}
use Rattle.f3_heap_laws.proofs.BlockReads.{seg-extent-append, laid-at, split-ends, read-block, free-head, free-next, free-prev, free-within, FirstFree, find-free, later}

add_nothing : (n : ℕ) → n + 0 ≡ n
add_nothing n = omega arith

from_zero : (n : ℕ) → 0 + n ≡ n
from_zero n = omega arith

three_one : (n : ℕ) → (n + 3) + 1 ≡ n + 4
three_one n = omega arith

-- the segments before a place, read from the words before it
pub segments-before : (none : ℕ) (segs : List Segment) (ws : List ℤ) (first end : ℕ) (h : Lays none segs ws first end) (front back : List Segment) (at : ℕ) → segs ≡ front ++ back → at ≡ extent seg_block seg_size front → segments ws at ≡ front
unfolding segments
segments-before none segs ws first end h front back at split place =
    let lx = length-cells none (first_free none (extent seg_block seg_size front) back) 0 front in
    let words = laid-at none segs ws first end h front back split in
    let rest = cells (last_free none 0 front) none (extent seg_block seg_size front) back ++ h.rest in
    ap (read_segments (length ws)) (ap (take at) words ∙ take_at (cells none (first_free none (extent seg_block seg_size front) back) 0 front) rest at (lx ∙ sym place))
    ∙ read-cells (length ws) none (first_free none (extent seg_block seg_size front) back) 0 front (omega (arith, count-extent front, lx, ap length words, length-append (cells none (first_free none (extent seg_block seg_size front) back) 0 front) rest)) (AreValid-front front back (subst AreValid split h.valid))

no-free-last : (n p q prev : ℕ) (ys : List Segment) → p + extent seg_block seg_size ys ≤ first_free n p ys → last_free prev q ys ≡ prev
no-free-last n p q prev [] h = refl
no-free-last n p q prev (Used ws pins ∷ ys) h = no-free-last n (p + r (length ws)) (q + r (length ws)) prev ys (omega arith)
no-free-last n p q prev (Free junk ∷ ys) h = absurd (omega arith)

last-below : (p q : ℕ) (ys : List Segment) → p < q → last_free p q ys < q + extent seg_block seg_size ys
last-below p q [] l = omega arith
last-below p q (Used c n ∷ ys) l = omega (arith, last-below p (q + r (length c)) ys (omega arith))
last-below p q (Free j ∷ ys) l = omega (arith, last-below q (q + (length j + 4)) ys (omega arith))

module _ (none : ℕ) (segs : List Segment) (ws : List ℤ) (first end at prev next : ℕ) (h : Lays none segs ws first end) (fits : end ≤ none) (front : List Segment) (place : at ≡ extent seg_block seg_size front) (w : Walks none at segs front prev next) where
  beyond : ℕ
  beyond = first_free none at w.back

  far : at ≤ first_free none at w.back
  far = let e = split-ends none segs ws first end h front w.back w.split in
      elim (later none at w.back (omega arith)) [ inl n ↦ omega arith | inr le ↦ le.0 ]

  pub walk-end : at ≤ next → last_free none 0 front ≡ prev
  walk-end le =
      let e = ap (extent seg_block seg_size) w.cut ∙ seg-extent-append w.done w.left in
      ap (last_free none 0) w.cut ∙ last_free-append none 0 w.done w.left
      ∙ no-free-last (first_free none at w.back) (extent seg_block seg_size w.done) (0 + extent seg_block seg_size w.done) (last_free none 0 w.done) w.left (omega (arith, e, w.ahead))
      ∙ sym w.passed

  module _ (lt : next < at) where
    pub ahead-free : FirstFree (first_free none at w.back) (extent seg_block seg_size w.done) w.left next
    ahead-free = find-free (first_free none at w.back) (extent seg_block seg_size w.done) w.left next w.ahead (λ e. absurd (omega (arith, far)))

    ahead-split : segs ≡ (w.done ++ ahead-free.lives) ++ Free ahead-free.junk ∷ (ahead-free.more ++ w.back)
    ahead-split =
        w.split ∙ ap (λ l. l ++ w.back) (w.cut ∙ ap (λ l. w.done ++ l) ahead-free.split ∙ sym (append_assoc w.done ahead-free.lives (Free ahead-free.junk ∷ ahead-free.more)))
        ∙ append_assoc (w.done ++ ahead-free.lives) (Free ahead-free.junk ∷ ahead-free.more) w.back

    ahead-place : next ≡ extent seg_block seg_size (w.done ++ ahead-free.lives)
    ahead-place = ahead-free.place ∙ sym (seg-extent-append w.done ahead-free.lives)

    front-sum : at ≡ next + (length ahead-free.junk + 4) + extent seg_block seg_size ahead-free.more
    front-sum =
        omega (arith, place, ap (extent seg_block seg_size) w.cut, seg-extent-append w.done w.left, ap (extent seg_block seg_size) ahead-free.split, seg-extent-append ahead-free.lives (Free ahead-free.junk ∷ ahead-free.more), ahead-free.place)

    link-is : cast_unsigned w64 (get_or ws (next + 1) (pos 0)) ≡ first_free (first_free none at w.back) (next + (length ahead-free.junk + 4)) ahead-free.more
    link-is =
        ap (cast_unsigned w64) (free-next none segs ws first end h (w.done ++ ahead-free.lives) ahead-free.junk (ahead-free.more ++ w.back) next ahead-split ahead-place)
        ∙ first_free-append none (next + (length ahead-free.junk + 4)) ahead-free.more w.back
        ∙ ap (λ k. first_free (first_free none k w.back) (next + (length ahead-free.junk + 4)) ahead-free.more) (sym front-sum)

    pub walk-within : next + 4 ≤ end
    walk-within = omega (arith, free-within none segs ws first end h (w.done ++ ahead-free.lives) ahead-free.junk (ahead-free.more ++ w.back) next ahead-split ahead-place)

    pub walk-next : Walks none at segs front next (cast_unsigned w64 (get_or ws (next + 1) (pos 0)))
    walk-next = record {
      done = (w.done ++ ahead-free.lives) ++ Free ahead-free.junk ∷ [];
      left = ahead-free.more;
      back = w.back;
      split = w.split;
      cut = w.cut ∙ ap (λ l. w.done ++ l) ahead-free.split ∙ sym (append_assoc w.done ahead-free.lives (Free ahead-free.junk ∷ ahead-free.more)) ∙ sym (append_assoc (w.done ++ ahead-free.lives) (Free ahead-free.junk ∷ []) ahead-free.more);
      passed = ahead-place ∙ sym (from_zero (extent seg_block seg_size (w.done ++ ahead-free.lives))) ∙ sym (last_free-append none 0 (w.done ++ ahead-free.lives) (Free ahead-free.junk ∷ []));
      ahead = link-is ∙ ap (λ k. first_free (first_free none at w.back) k ahead-free.more) (omega (arith, ahead-place, seg-extent-append (w.done ++ ahead-free.lives) (Free ahead-free.junk ∷ [])));
    }

    later_than : (n p : ℕ) (ys : List Segment) → (first_free n p ys ≡ n) ⊎ (p ≤ first_free n p ys)
    later_than n p [] = inl refl
    later_than n p (Used c pins ∷ ys) = elim (later_than n (p + r (length c)) ys) [ inl e ↦ inl e | inr le ↦ inr (omega arith) ]
    later_than n p (Free junk ∷ ys) = inr (omega arith)

    pub walk-later : next < cast_unsigned w64 (get_or ws (next + 1) (pos 0))
    walk-later = elim (later_than (first_free none at w.back) (next + (length ahead-free.junk + 4)) ahead-free.more) [
      | inl e ↦ omega (arith, link-is, e, far)
      | inr le ↦ omega (arith, link-is, le)
    ]

    -- a free block stands before
    pub walk-some : last_free none 0 front < at
    walk-some =
        let x : List Segment = w.done ++ ahead-free.lives in
        let e : front ≡ x ++ Free ahead-free.junk ∷ ahead-free.more = w.cut ∙ ap (λ l. w.done ++ l) ahead-free.split ∙ sym (append_assoc w.done ahead-free.lives (Free ahead-free.junk ∷ ahead-free.more)) in
        omega (arith, ap (last_free none 0) e ∙ last_free-append none 0 x (Free ahead-free.junk ∷ ahead-free.more), last-below (0 + extent seg_block seg_size x) ((0 + extent seg_block seg_size x) + (length ahead-free.junk + 4)) ahead-free.more (omega arith), front-sum, ahead-place)

-- the walk begins
pub walk-start : (none : ℕ) (segs : List Segment) (ws : List ℤ) (first end at : ℕ) (h : Lays none segs ws first end) (front back : List Segment) → segs ≡ front ++ back → at ≡ extent seg_block seg_size front → Walks none at segs front none first
walk-start none segs ws first end at h front back split place = record {
  done = [];
  left = front;
  back = back;
  split = split;
  cut = refl;
  passed = refl;
  ahead = h.begins ∙ ap (first_free none 0) split ∙ first_free-append none 0 front back ∙ ap (λ k. first_free (first_free none k back) 0 front) (from_zero (extent seg_block seg_size front) ∙ sym place);
}

-- a block's last word
used-last : (ws : List ℤ) (pins : ℕ) (more : List ℤ) → get_or (used_words ws pins ++ more) (r (length ws) - 1) (pos 0) ≡ pos (length ws)
used-last ws pins more =
    let pad = replicate (r (length ws) - (length ws + 3)) (pos 0) in
    let front : List ℤ = pos (length ws) ∷ cast_signed w64 pins ∷ (ws ++ pad) in
    ap (λ l. get_or (pos (length ws) ∷ cast_signed w64 pins ∷ l) (r (length ws) - 1) (pos 0)) (ap (λ l. l ++ more) (sym (append_assoc ws pad (pos (length ws) ∷ []))) ∙ append_assoc (ws ++ pad) (pos (length ws) ∷ []) more)
    ∙ get_or_at front (pos (length ws)) more (pos 0) (r (length ws) - 1) (omega (arith, length-append ws pad, length-replicate (r (length ws) - (length ws + 3)) (pos 0), r-above (length ws)))

free-last : (junk : List ℤ) (next prev : ℕ) (more : List ℤ) → get_or (free_words junk next prev ++ more) (length junk + 3) (pos 0) ≡ negsuc (length junk + 3)
free-last junk next prev more =
    let front : List ℤ = negsuc (length junk + 3) ∷ pos next ∷ pos prev ∷ junk in
    ap (λ l. get_or (negsuc (length junk + 3) ∷ pos next ∷ pos prev ∷ l) (length junk + 3) (pos 0)) (append_assoc junk (negsuc (length junk + 3) ∷ []) more)
    ∙ get_or_at front (negsuc (length junk + 3)) more (pos 0) (length junk + 3) (omega arith)

-- what stands before a place
pub data LeftCase (front : List Segment) (left : ℕ) : Type 0 where
  live_left : left ≡ 0 → ends_free false front ≡ false → LeftCase front left
  free_left : (f : List Segment) (junk : List ℤ) → front ≡ f ++ Free junk ∷ [] → left ≡ length junk + 4 → LeftCase front left

pub data RightCase (back : List Segment) (right : ℕ) : Type 0 where
  live_right : right ≡ 0 → BeginsLive back → RightCase back right
  free_right : (junk : List ℤ) (b : List Segment) → back ≡ Free junk ∷ b → right ≡ length junk + 4 → RightCase back right

pub data Snoc (xs : List Segment) : Type 0 where
  nil : xs ≡ [] → Snoc xs
  snoc : (f : List Segment) (s : Segment) → xs ≡ f ++ s ∷ [] → Snoc xs

pub snoc_of : (xs : List Segment) → Snoc xs
snoc_of [] = nil refl
snoc_of (x ∷ xs) = elim (snoc_of xs) [ nil e ↦ snoc [] x (ap (λ l. x ∷ l) e) | snoc f s e ↦ snoc (x ∷ f) s (ap (λ l. x ∷ l) e) ]

pub ends-append : (b : Bool) (xs ys : List Segment) → ends_free b (xs ++ ys) ≡ ends_free (ends_free b xs) ys
ends-append b [] ys = refl
ends-append b (Used ws pins ∷ xs) ys = ends-append false xs ys
ends-append b (Free junk ∷ xs) ys = ends-append true xs ys

pub apart-append : (b : Bool) (xs ys : List Segment) → AreApart b (xs ++ ys) → AreApart b xs × AreApart (ends_free b xs) ys
apart-append b [] ys h = (tt, h)
apart-append b (Used ws pins ∷ xs) ys h = apart-append false xs ys h
apart-append true (Free junk ∷ xs) ys h = absurd h
apart-append false (Free junk ∷ xs) ys h = apart-append true xs ys h

pub apart-join : (b : Bool) (xs ys : List Segment) → AreApart b xs → AreApart (ends_free b xs) ys → AreApart b (xs ++ ys)
apart-join b [] ys h k = k
apart-join b (Used ws pins ∷ xs) ys h k = apart-join false xs ys h k
apart-join true (Free junk ∷ xs) ys h k = absurd h
apart-join false (Free junk ∷ xs) ys h k = apart-join true xs ys h k

plus_one : (m k : ℕ) → m ≡ 0 + k → m + 1 ≡ k + 1
plus_one m k e = omega arith

live_after : (b : List Segment) → AreApart true b → BeginsLive b
live_after [] h = tt
live_after (Used ws pins ∷ b) h = tt
live_after (Free junk ∷ b) h = h

not_free : (b : Bool) (j : List ℤ) → AreApart b (Free j ∷ []) → b ≡ false
not_free true j h = absurd h
not_free false j h = refl

last_zero : (front f : List Segment) (s : Segment) → front ≡ f ++ s ∷ [] → extent seg_block seg_size front ≡ 0 → ⊥
last_zero front f s e z = absurd (omega (arith, ap (extent seg_block seg_size) e, seg-extent-append f (s ∷ []), seg_positive s))

module _ (none : ℕ) (segs : List Segment) (ws : List ℤ) (first end at : ℕ) (h : Lays none segs ws first end) (fits : end ≤ none) (front : List Segment) (content : List ℤ) (pins : ℕ) (back : List Segment) (split : segs ≡ front ++ Used content pins ∷ back) (place : at ≡ extent seg_block seg_size front) where
  pub tag_word : (f : List Segment) (s : Segment) → front ≡ f ++ s ∷ [] → get_or ws (at - 1) (pos 0) ≡ header s
  tag_word f (Used c n) e =
      let split' : segs ≡ f ++ (Used c n ∷ (Used content pins ∷ back)) = split ∙ ap (λ l. l ++ Used content pins ∷ back) e ∙ append_assoc f (Used c n ∷ []) (Used content pins ∷ back) in
      ap (λ k. get_or ws k (pos 0)) (omega (arith, place, ap (extent seg_block seg_size) e, seg-extent-append f (Used c n ∷ []), r-above (length c)))
      ∙ read-block none segs ws first end h f (Used c n ∷ (Used content pins ∷ back)) (extent seg_block seg_size f) (r (length c) - 1) (pos 0) split' refl
      ∙ ap (λ l. get_or l (r (length c) - 1) (pos 0)) (append_assoc (used_words c n) _ h.rest) ∙ used-last c n _
  tag_word f (Free j) e =
      let split' : segs ≡ f ++ (Free j ∷ (Used content pins ∷ back)) = split ∙ ap (λ l. l ++ Used content pins ∷ back) e ∙ append_assoc f (Free j ∷ []) (Used content pins ∷ back) in
      ap (λ k. get_or ws k (pos 0)) (omega (arith, place, ap (extent seg_block seg_size) e, seg-extent-append f (Free j ∷ [])))
      ∙ read-block none segs ws first end h f (Free j ∷ (Used content pins ∷ back)) (extent seg_block seg_size f) (length j + 3) (pos 0) split' refl
      ∙ ap (λ l. get_or l (length j + 3) (pos 0)) (append_assoc (free_words j (first_free none (extent seg_block seg_size f + (length j + 4)) (Used content pins ∷ back)) (last_free none 0 f)) _ h.rest) ∙ free-last j _ _ _

  of_last : (left : ℕ) → (0 < at → left ≡ free_size_of (get_or ws (at - 1) (pos 0))) → (f : List Segment) (s : Segment) → front ≡ f ++ s ∷ [] → LeftCase front left
  of_last left some_left f (Used c n) e = live_left (some_left (omega (arith, place, ap (extent seg_block seg_size) e, seg-extent-append f (Used c n ∷ []), r-above (length c))) ∙ ap free_size_of (tag_word f (Used c n) e)) (ap (ends_free false) e ∙ ends-append false f (Used c n ∷ []))
  of_last left some_left f (Free j) e = free_left f j e (some_left (omega (arith, place, ap (extent seg_block seg_size) e, seg-extent-append f (Free j ∷ []))) ∙ ap free_size_of (tag_word f (Free j) e) ∙ three_one (length j))

  pub left-case : (left : ℕ) → (at ≡ 0 → left ≡ 0) → (0 < at → left ≡ free_size_of (get_or ws (at - 1) (pos 0))) → LeftCase front left
  left-case left none_left some_left = elim (snoc_of front) [
    | nil e ↦ live_left (none_left (place ∙ ap (extent seg_block seg_size) e)) (ap (ends_free false) e)
    | snoc f s e ↦ of_last left some_left f s e
  ]

  abbrev pub past : ℕ
  past = at + r (length content)

  behind-block : segs ≡ (front ++ Used content pins ∷ []) ++ back
  behind-block = split ∙ sym (append_assoc front (Used content pins ∷ []) back)

  behind-place : at + r (length content) ≡ extent seg_block seg_size (front ++ Used content pins ∷ [])
  behind-place = omega (arith, place, seg-extent-append front (Used content pins ∷ []))

  right_of : (right : ℕ) (b : List Segment) → back ≡ b → (past < end → right ≡ free_size_of (get_or ws past (pos 0))) → (end ≤ past → right ≡ 0) → RightCase back right
  right_of right [] e some none_right = live_right (none_right (omega (arith, split-ends none segs ws first end h (front ++ Used content pins ∷ []) back behind-block, ap (extent seg_block seg_size) e, behind-place))) (subst BeginsLive (sym e) tt)
  right_of right (Used c n ∷ b) e some none_right =
      live_right (some (omega (arith, split-ends none segs ws first end h (front ++ Used content pins ∷ []) back behind-block, ap (extent seg_block seg_size) e, behind-place, r-above (length c)))
      ∙ ap free_size_of (ap (λ k. get_or ws k (pos 0)) (sym (add_nothing past)) ∙ read-block none segs ws first end h (front ++ Used content pins ∷ []) (Used c n ∷ b) past 0 (pos 0) (behind-block ∙ ap (λ l. (front ++ Used content pins ∷ []) ++ l) e) behind-place))
      (subst BeginsLive (sym e) tt)
  right_of right (Free j ∷ b) e some none_right =
      free_right j b e (some (omega (arith, split-ends none segs ws first end h (front ++ Used content pins ∷ []) back behind-block, ap (extent seg_block seg_size) e, behind-place))
      ∙ ap free_size_of (free-head none segs ws first end h (front ++ Used content pins ∷ []) j b past (behind-block ∙ ap (λ l. (front ++ Used content pins ∷ []) ++ l) e) behind-place) ∙ three_one (length j))

  pub right-case : (right : ℕ) → (past < end → right ≡ free_size_of (get_or ws past (pos 0))) → (end ≤ past → right ≡ 0) → RightCase back right
  right-case right some none_right = right_of right back refl some none_right

  -- the free block before, as the links tell it
  block_first : first_free none at (Used content pins ∷ back) ≡ first_free none past back
  block_first = refl

  pub left-prev : (f : List Segment) (j : List ℤ) (left : ℕ) → front ≡ f ++ Free j ∷ [] → left ≡ length j + 4 → get_or ws ((at - left) + 2) (pos 0) ≡ pos (last_free none 0 f)
  left-prev f j left e l = free-prev none segs ws first end h f j (Used content pins ∷ back) (at - left) (split ∙ ap (λ z. z ++ Used content pins ∷ back) e ∙ append_assoc f (Free j ∷ []) (Used content pins ∷ back)) (omega (arith, place, ap (extent seg_block seg_size) e, seg-extent-append f (Free j ∷ [])))

  pub left-next : (f : List Segment) (j : List ℤ) (left : ℕ) → front ≡ f ++ Free j ∷ [] → left ≡ length j + 4 → get_or ws ((at - left) + 1) (pos 0) ≡ pos (first_free none past back)
  left-next f j left e l =
      free-next none segs ws first end h f j (Used content pins ∷ back) (at - left) (split ∙ ap (λ z. z ++ Used content pins ∷ back) e ∙ append_assoc f (Free j ∷ []) (Used content pins ∷ back)) (omega (arith, place, ap (extent seg_block seg_size) e, seg-extent-append f (Free j ∷ [])))
      ∙ ap (λ k. pos (first_free none k back)) (omega (arith, place, ap (extent seg_block seg_size) e, seg-extent-append f (Free j ∷ [])))

  pub left-within : (f : List Segment) (j : List ℤ) (left : ℕ) → front ≡ f ++ Free j ∷ [] → left ≡ length j + 4 → left ≤ at
  left-within f j left e l = omega (arith, place, ap (extent seg_block seg_size) e, seg-extent-append f (Free j ∷ []))

  right_split : (j : List ℤ) (b : List Segment) → back ≡ Free j ∷ b → segs ≡ (front ++ Used content pins ∷ []) ++ Free j ∷ b
  right_split j b e = behind-block ∙ ap (λ l. (front ++ Used content pins ∷ []) ++ l) e

  pub right-prev : (j : List ℤ) (b : List Segment) → back ≡ Free j ∷ b → get_or ws (past + 2) (pos 0) ≡ pos (last_free none 0 front)
  right-prev j b e = free-prev none segs ws first end h (front ++ Used content pins ∷ []) j b past (right_split j b e) behind-place ∙ ap pos (last_free-append none 0 front (Used content pins ∷ []))

  pub right-next : (j : List ℤ) (b : List Segment) → back ≡ Free j ∷ b → get_or ws (past + 1) (pos 0) ≡ pos (first_free none (past + (length j + 4)) b)
  right-next j b e = free-next none segs ws first end h (front ++ Used content pins ∷ []) j b past (right_split j b e) behind-place

  pub right-within : (j : List ℤ) (b : List Segment) → back ≡ Free j ∷ b → past + (length j + 4) ≤ end
  right-within j b e = free-within none segs ws first end h (front ++ Used content pins ∷ []) j b past (right_split j b e) behind-place

  first_is : first ≡ first_free (first_free none past back) 0 front
  first_is = h.begins ∙ ap (first_free none 0) split ∙ first_free-append none 0 front (Used content pins ∷ back) ∙ ap (λ k. first_free (first_free none (k + r (length content)) back) 0 front) (from_zero (extent seg_block seg_size front) ∙ sym place)

  -- the free block behind, from the one before
  alone_next : (next : ℕ) → NextLink none 0 front → (last_free none 0 front ≡ none → next ≡ first) → (last_free none 0 front ≢ none → next ≡ cast_unsigned w64 (get_or ws (last_free none 0 front + 1) (pos 0))) → next ≡ first_free none past back
  alone_next next (no_next l f c) start step = start l ∙ first_is ∙ f (first_free none past back)
  alone_next next (next_at k l below f c) start step =
      let e = split-ends none segs ws first end h front (Used content pins ∷ back) split in
      let n = first_free none (extent seg_block seg_size front) (Used content pins ∷ back) in
      step (λ z. absurd (omega (arith, e)))
      ∙ ap (cast_unsigned w64) (ap (λ i. get_or ws i (pos 0)) (plus_one (last_free none 0 front) k l)
      ∙ ap (λ z. get_or z (k + 1) (pos 0)) (laid-at none segs ws first end h front (Used content pins ∷ back) split)
      ∙ get_or_append_left (cells none n 0 front) (cells (last_free none 0 front) none (extent seg_block seg_size front) (Used content pins ∷ back) ++ h.rest) (pos 0) (k + 1) (omega (arith, length-cells none n 0 front))
      ∙ ap (λ z. get_or z (k + 1) (pos 0)) (c n n)
      ∙ get_or-set_same (cells none n 0 front) (k + 1) (pos n) (pos 0) (omega (arith, length-cells none n 0 front)))
      ∙ ap (λ p. first_free none (p + r (length content)) back) (sym place)

  pub alone-next : (next : ℕ) → (last_free none 0 front ≡ none → next ≡ first) → (last_free none 0 front ≢ none → next ≡ cast_unsigned w64 (get_or ws (last_free none 0 front + 1) (pos 0))) → next ≡ first_free none past back
  alone-next next start step = alone_next next (next_link none 0 front) start step

  of_link : NextLink none 0 front → (last_free none 0 front ≢ none) → last_free none 0 front + 4 ≤ end
  of_link (no_next l f c) ne = absurd (ne l)
  of_link (next_at k l below f c) ne = omega (arith, split-ends none segs ws first end h front (Used content pins ∷ back) split)

  pub last-in : (last_free none 0 front ≢ none) → last_free none 0 front + 4 ≤ end
  last-in ne = of_link (next_link none 0 front) ne

  -- all four cases
  module _ (left right prev next : ℕ) (apart : AreApart false segs)
      (prev_left : 0 < left → prev ≡ cast_unsigned w64 (get_or ws ((at - left) + 2) (pos 0)))
      (prev_right : left ≡ 0 → 0 < right → prev ≡ cast_unsigned w64 (get_or ws (past + 2) (pos 0)))
      (prev_alone : left ≡ 0 → right ≡ 0 → prev ≡ last_free none 0 front)
      (next_right : 0 < right → next ≡ cast_unsigned w64 (get_or ws (past + 1) (pos 0)))
      (next_left : right ≡ 0 → 0 < left → next ≡ cast_unsigned w64 (get_or ws ((at - left) + 1) (pos 0)))
      (next_start : right ≡ 0 → left ≡ 0 → prev ≡ none → next ≡ first)
      (next_step : right ≡ 0 → left ≡ 0 → prev ≢ none → next ≡ cast_unsigned w64 (get_or ws (prev + 1) (pos 0))) where
    apart_here : AreApart false front × AreApart (ends_free false front) (Used content pins ∷ back)
    apart_here = apart-append false front (Used content pins ∷ back) (subst (AreApart false) split apart)

    begins_after : (j : List ℤ) (b : List Segment) → back ≡ Free j ∷ b → BeginsLive b
    begins_after j b e = live_after b (subst (AreApart false) e apart_here.1)

    closed_before : (f : List Segment) (j : List ℤ) → front ≡ f ++ Free j ∷ [] → ends_free false f ≡ false
    closed_before f j e = not_free (ends_free false f) j (apart-append false f (Free j ∷ []) (subst (AreApart false) e apart_here.0)).1

    pub around : LeftCase front left → RightCase back right → Around none segs at (at - left) (left + r (length content) + right) prev next
    around (live_left l closed) (live_right ri opens) = record {
      front = front;
      lefts = [];
      content = content;
      pins = pins;
      rights = [];
      back = back;
      split = split;
      left_free = tt;
      right_free = tt;
      place = omega (arith, place);
      sizes = omega arith;
      block_at = omega arith;
      before = prev_alone l ri;
      behind = alone-next next (λ e. next_start ri l (prev_alone l ri ∙ e)) (λ ne. next_step ri l (λ e. ne (sym (prev_alone l ri) ∙ e)) ∙ ap (λ p. cast_unsigned w64 (get_or ws (p + 1) (pos 0))) (prev_alone l ri)) ∙ ap (λ k. first_free none k back) (omega arith);
      closed = closed;
      opens = opens;
    }
    around (free_left f j e l) (live_right ri opens) = record {
      front = f;
      lefts = Free j ∷ [];
      content = content;
      pins = pins;
      rights = [];
      back = back;
      split = split ∙ ap (λ z. z ++ Used content pins ∷ back) e ∙ append_assoc f (Free j ∷ []) (Used content pins ∷ back);
      left_free = tt;
      right_free = tt;
      place = omega (arith, place, ap (extent seg_block seg_size) e, seg-extent-append f (Free j ∷ []));
      sizes = omega arith;
      block_at = omega (arith, left-within f j left e l);
      before = prev_left (omega arith) ∙ ap (cast_unsigned w64) (left-prev f j left e l);
      behind = next_left ri (omega arith) ∙ ap (cast_unsigned w64) (left-next f j left e l) ∙ ap (λ k. first_free none k back) (omega (arith, left-within f j left e l));
      closed = closed_before f j e;
      opens = opens;
    }
    around (live_left l closed) (free_right j b e ri) = record {
      front = front;
      lefts = [];
      content = content;
      pins = pins;
      rights = Free j ∷ [];
      back = b;
      split = split ∙ ap (λ z. front ++ Used content pins ∷ z) e;
      left_free = tt;
      right_free = tt;
      place = omega (arith, place);
      sizes = omega arith;
      block_at = omega arith;
      before = prev_right l (omega arith) ∙ ap (cast_unsigned w64) (right-prev j b e);
      behind = next_right (omega arith) ∙ ap (cast_unsigned w64) (right-next j b e) ∙ ap (λ k. first_free none k b) (omega arith);
      closed = closed;
      opens = begins_after j b e;
    }
    around (free_left f j e l) (free_right k b d ri) = record {
      front = f;
      lefts = Free j ∷ [];
      content = content;
      pins = pins;
      rights = Free k ∷ [];
      back = b;
      split = split ∙ (λ i. (e i) ++ Used content pins ∷ (d i)) ∙ append_assoc f (Free j ∷ []) (Used content pins ∷ Free k ∷ b);
      left_free = tt;
      right_free = tt;
      place = omega (arith, place, ap (extent seg_block seg_size) e, seg-extent-append f (Free j ∷ []));
      sizes = omega arith;
      block_at = omega (arith, left-within f j left e l);
      before = prev_left (omega arith) ∙ ap (cast_unsigned w64) (left-prev f j left e l);
      behind = next_right (omega arith) ∙ ap (cast_unsigned w64) (right-next k b d) ∙ ap (λ z. first_free none z b) (omega (arith, left-within f j left e l));
      closed = closed_before f j e;
      opens = begins_after k b d;
    }
