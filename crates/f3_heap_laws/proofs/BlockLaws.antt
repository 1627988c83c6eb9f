-- Bounds and fields for taking and giving a block.
use Rattle.std.proofs.Common.{◌≡◌, ◌≢◌, ℕ, ℤ, pos, ◌+◌, ◌-◌, ◌<◌, ◌≤◌, ◌^◌, Bool, true, false, nat_le, List, [], ◌∷◌, ◌++◌, length, get_or, replicate, refl, sym, ap, subst, ◌∙◌, arith, append_assoc, ◌⊎◌, inl, inr}
use Rattle.std.proofs.lemmas.Bool.Decides.{nat_tests}
use Rattle.std.specs.List.{list_any}
use mir.Syntax.{w64}
use Rattle.std.specs.Int.{cast_unsigned}
use Rattle.f3_raw.specs.Words.{written}
use Rattle.f3_heap_laws.specs.Account.{r}
use Rattle.f3_heap_laws.specs.Placed.{extent}
use Rattle.f3_heap_laws.specs.Gaps.{gaps, places, is_wide}
use Rattle.f3_heap_laws.specs.Segments.{Segment, Used, Free, seg_size, seg_block, first_free, segments, live_segments, NoneFits, FitsAt, IsHeap, Around, used_words, Cuts}
use Rattle.f3_heap_laws.proofs.Relink.{last-within}
use Rattle.f3_heap_laws.proofs.BlockReads.{end-within, used-head, seg-extent-append, free-within}
use Rattle.f3_heap_laws.proofs.Giving.{run-end, joined-four}
use Rattle.f3_heap_laws.proofs.HeapLaws.{room-lacking, used-le-extent, cut-heap}

pub none-large : (n : ℕ) (segs : List Segment) → extent seg_block seg_size segs < n → NoneFits n segs
none-large n [] h = tt
none-large n (Used ws pins ∷ ss) h = none-large n ss (omega arith)
none-large n (Free junk ∷ ss) h = (omega arith, none-large n ss (omega arith))

not_le : (m n : ℕ) → nat_le m n ≡ false → n < m
not_le m n e = grind (arith, nat_tests)

le_not : (m n : ℕ) → n < m → nat_le m n ≡ false
le_not m n h = grind (arith, nat_tests)

yes_le : (m n : ℕ) → m ≤ n → nat_le m n ≡ true
yes_le m n h = grind (arith, nat_tests)

le_yes : (m n : ℕ) → nat_le m n ≡ true → m ≤ n
le_yes m n e = grind (arith, nat_tests)

-- the invariant at other names for its values
pub heap-at : (ws ws' : List ℤ) (room room' size first first' end end' used used' : ℕ) → IsHeap ws room size first end used → ws' ≡ ws → room' ≡ room → first' ≡ first → end' ≡ end → used' ≡ used → IsHeap ws' room' size first' end' used'
heap-at ws ws' room room' size first first' end end' used used' h e1 e2 e3 e4 e5 =
    subst (λ (z : List ℤ). IsHeap z room' size first' end' used') (sym e1) (subst (λ (z : ℕ). IsHeap ws z size first' end' used') (sym e2) (subst (λ (z : ℕ). IsHeap ws room size z end' used') (sym e3) (subst (λ (z : ℕ). IsHeap ws room size first z used') (sym e4) (subst (λ (z : ℕ). IsHeap ws room size first end z) (sym e5) h))))

module _ (ws : List ℤ) (room size first end used : ℕ) (h : IsHeap ws room size first end used) where
  pub heap-words : end ≤ length ws
  heap-words = end-within size (segments ws end) ws first end h.lays

  pub heap-used : used ≤ end
  heap-used = omega (arith, h.account, used-le-extent (segments ws end), h.lays.ends)

  pub room-large : (w : ℕ) (b : Bool) → b ≡ false → b ≡ nat_le (r w) size → list_any (is_wide w) (gaps (places (live_segments (segments ws end))) size) ≡ false
  room-large w b f e =
      let lt : size < r w = not_le (r w) size (sym e ∙ f) in
      room-lacking ws room size first end used w h (none-large (r w) (segments ws end) (omega (arith, h.lays.ends, h.within))) ∙ le_not (r w) (size - end) (omega arith)

  pub room-full : (w n : ℕ) → n ≡ r w → NoneFits n (segments ws end) → size - end < n → list_any (is_wide w) (gaps (places (live_segments (segments ws end))) size) ≡ false
  room-full w n e none lt = room-lacking ws room size first end used w h (subst (λ (k : ℕ). NoneFits k (segments ws end)) e none) ∙ le_not (r w) (size - end) (omega arith)

  pub room-behind : (w n : ℕ) → n ≡ r w → NoneFits n (segments ws end) → n ≤ size - end → list_any (is_wide w) (gaps (places (live_segments (segments ws end))) size) ≡ true
  room-behind w n e none le = room-lacking ws room size first end used w h (subst (λ (k : ℕ). NoneFits k (segments ws end)) e none) ∙ yes_le (r w) (size - end) (omega arith)

  pub fits-within : (n at : ℕ) → FitsAt n (segments ws end) at → at + n ≤ end
  fits-within n at f = omega (arith, f.wide, free-within size (segments ws end) ws first end h.lays f.front f.junk f.back at f.split f.place)

  pub cut-used : (w n at first' : ℕ) (ws' : List ℤ) → n ≡ r w → Cuts size n (segments ws end) at first' end ws' → used + n ≤ end
  cut-used w n at first' ws' e c =
      let k = cut-heap ws room size first end used w at first' h ws' (subst (λ (m : ℕ). Cuts size m (segments ws end) at first' end ws') e c) in
      omega (arith, k.account, used-le-extent (segments (written ws' at (used_words (replicate w (pos 0)) 0)) end), k.lays.ends, e)

  module _ (block at run prev next : ℕ) (g : Around size (segments ws end) block at run prev next) where
    pub around-end : at + run ≤ end
    around-end = omega (arith, run-end size (segments ws end) ws first end block at run prev next h.lays h.within g)

    pub around-four : 4 ≤ run
    around-four = joined-four size (segments ws end) ws first end block at run prev next h.lays h.within g

    pub around-prev : (prev ≡ size) ⊎ (prev + 4 ≤ at)
    around-prev = elim (last-within size g.front 0 0 [] (omega (arith, around-end, g.place, h.within))) [ inl e ↦ inl (g.before ∙ e) | inr le ↦ inr (omega (arith, g.before, g.place)) ]

    at_most : (p : ℕ) (ys : List Segment) → p + extent seg_block seg_size ys ≤ end → (first_free size p ys ≡ size) ⊎ (first_free size p ys + 4 ≤ end)
    at_most p [] k = inl refl
    at_most p (Used c pins ∷ ys) k = at_most (p + seg_size (Used c pins)) ys (omega arith)
    at_most p (Free junk ∷ ys) k = inr (omega arith)

    pub around-next : (next ≡ size) ⊎ (next + 4 ≤ end)
    around-next = elim (at_most (at + run) g.back (omega (arith, run-end size (segments ws end) ws first end block at run prev next h.lays h.within g))) [ inl e ↦ inl (g.behind ∙ e) | inr le ↦ inr (omega (arith, g.behind)) ]

    pub prev-in : prev ≢ size → prev + 4 ≤ length ws
    prev-in ne = elim around-prev [ inl e ↦ absurd (ne e) | inr le ↦ omega (arith, around-end, heap-words) ]

    pub next-in : next ≢ size → next + 4 ≤ length ws
    next-in ne = elim around-next [ inl e ↦ absurd (ne e) | inr le ↦ omega (arith, heap-words) ]

    pub prev-small : prev < 2 ^ 63
    prev-small = elim around-prev [ inl e ↦ omega (arith, h.small) | inr le ↦ omega (arith, around-end, h.within, h.small) ]

    pub next-small : next < 2 ^ 63
    next-small = elim around-next [ inl e ↦ omega (arith, h.small) | inr le ↦ omega (arith, h.within, h.small) ]

    block_split : segments ws end ≡ (g.front ++ g.lefts) ++ Used g.content g.pins ∷ (g.rights ++ g.back)
    block_split = g.split ∙ ap (λ z. g.front ++ z) (append_assoc g.lefts (Used g.content g.pins ∷ g.rights) g.back) ∙ sym (append_assoc g.front g.lefts (Used g.content g.pins ∷ (g.rights ++ g.back)))

    pub around-head : cast_unsigned w64 (get_or ws block (pos 0)) ≡ length g.content
    around-head = ap (cast_unsigned w64) (used-head size (segments ws end) ws first end h.lays (g.front ++ g.lefts) g.content g.pins (g.rights ++ g.back) block block_split (omega (arith, g.block_at, g.place, seg-extent-append g.front g.lefts)))
