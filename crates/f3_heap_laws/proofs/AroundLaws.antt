-- The run of a live block and its free neighbours, from the words that were read.
use Rattle.std.proofs.Common.{◌≡◌, ◌≢◌, ℕ, ℤ, pos, ◌+◌, ◌-◌, ◌<◌, ◌≤◌, false, List, ◌∷◌, length, get_or, sym, ap, subst, ◌∙◌, arith}
use mir.Syntax.{w64}
use Rattle.std.specs.Int.{cast_unsigned}
use Rattle.f3_heap_laws.specs.Account.{r}
use Rattle.f3_heap_laws.specs.Segments.{Segment, Used, last_free, Lays, UsedAt, segments, free_size_of, AreApart, Around}
use Rattle.f3_heap_laws.proofs.BlockReads.{used-head, used-within, end-within}
use Rattle.f3_heap_laws.proofs.Neighbours.{segments-before, left-case, right-case, left-within, right-within, last-in, around, LeftCase, live_left, free_left, RightCase, live_right, free_right}

module _ (none : ℕ) (segs : List Segment) (ws : List ℤ) (first end at size : ℕ) (h : Lays none segs ws first end) (fits : end ≤ none) (u : UsedAt segs at) (sized : size ≡ r (cast_unsigned w64 (get_or ws at (pos 0)))) where
  size-is : size ≡ r (length u.content)
  size-is = sized ∙ ap (λ z. r (cast_unsigned w64 z)) (used-head none segs ws first end h u.front u.content u.pins u.back at u.split u.place)

  pub block-within : at + size ≤ end
  block-within = omega (arith, size-is, used-within none segs ws first end h u.front u.content u.pins u.back at u.split u.place)

  pub all-within : end ≤ length ws
  all-within = end-within none segs ws first end h

  same_past : at + size ≡ at + r (length u.content)
  same_past = ap (λ n. at + n) size-is

  module _ (left right : ℕ) (start : at ≡ 0 → left ≡ 0) (tag : 0 < at → left ≡ free_size_of (get_or ws (at - 1) (pos 0)))
      (head : at + size < end → right ≡ free_size_of (get_or ws (at + size) (pos 0))) (last : end ≤ at + size → right ≡ 0) where
    lefts : LeftCase u.front left
    lefts = left-case none segs ws first end at h fits u.front u.content u.pins u.back u.split u.place left start tag

    rights : RightCase u.back right
    rights = right-case none segs ws first end at h fits u.front u.content u.pins u.back u.split u.place right
        (λ lt. head (omega (arith, same_past)) ∙ ap (λ k. free_size_of (get_or ws k (pos 0))) same_past) (λ le. last (omega (arith, same_past)))

    left_most : LeftCase u.front left → left ≤ at
    left_most (live_left e c) = omega arith
    left_most (free_left f j e l) = left-within none segs ws first end at h fits u.front u.content u.pins u.back u.split u.place f j left e l

    pub left-most : left ≤ at
    left-most = left_most lefts

    left_four : LeftCase u.front left → 0 < left → 4 ≤ left
    left_four (live_left e c) p = omega arith
    left_four (free_left f j e l) p = omega arith

    pub left-four : 0 < left → 4 ≤ left
    left-four = left_four lefts

    right_most : RightCase u.back right → (at + size) + right ≤ end
    right_most (live_right e c) = omega (arith, block-within)
    right_most (free_right j b e l) = omega (arith, same_past, right-within none segs ws first end at h fits u.front u.content u.pins u.back u.split u.place j b e)

    pub right-most : (at + size) + right ≤ end
    right-most = right_most rights

    right_four : RightCase u.back right → 0 < right → 4 ≤ right
    right_four (live_right e c) p = omega arith
    right_four (free_right j b e l) p = omega arith

    pub right-four : 0 < right → 4 ≤ right
    right-four = right_four rights

    front_is : segments ws at ≡ u.front
    front_is = segments-before none segs ws first end h u.front (Used u.content u.pins ∷ u.back) at u.split u.place

    pub before-within : (prev : ℕ) → prev ≡ last_free none 0 (segments ws at) → prev ≢ none → prev + 4 ≤ end
    before-within prev e ne =
        let e' = e ∙ ap (last_free none 0) front_is in
        omega (arith, e', last-in none segs ws first end at h fits u.front u.content u.pins u.back u.split u.place (λ z. ne (e' ∙ z)))

    pub around-is : (prev next : ℕ) → AreApart false segs
        → (0 < left → prev ≡ cast_unsigned w64 (get_or ws ((at - left) + 2) (pos 0)))
        → (left ≡ 0 → 0 < right → prev ≡ cast_unsigned w64 (get_or ws ((at + size) + 2) (pos 0)))
        → (left ≡ 0 → right ≡ 0 → prev ≡ last_free none 0 (segments ws at))
        → (0 < right → next ≡ cast_unsigned w64 (get_or ws ((at + size) + 1) (pos 0)))
        → (right ≡ 0 → 0 < left → next ≡ cast_unsigned w64 (get_or ws ((at - left) + 1) (pos 0)))
        → (right ≡ 0 → left ≡ 0 → prev ≡ none → next ≡ first)
        → (right ≡ 0 → left ≡ 0 → prev ≢ none → next ≡ cast_unsigned w64 (get_or ws (prev + 1) (pos 0)))
        → Around none segs at (at - left) (left + size + right) prev next
    around-is prev next apart pl pr pa nr nl ns nt =
        subst (λ (k : ℕ). Around none segs at (at - left) (left + k + right) prev next) (sym size-is)
        (around none segs ws first end at h fits u.front u.content u.pins u.back u.split u.place left right prev next apart pl
        (λ e p. pr e p ∙ ap (λ k. cast_unsigned w64 (get_or ws (k + 2) (pos 0))) same_past) (λ e p. pa e p ∙ ap (last_free none 0) front_is)
        (λ p. nr p ∙ ap (λ k. cast_unsigned w64 (get_or ws (k + 1) (pos 0))) same_past) nl ns nt lefts rights)
