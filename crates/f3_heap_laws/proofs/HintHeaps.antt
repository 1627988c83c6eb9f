-- Hints after a heap's operations.
use Rattle.std.proofs.Common.{◌≡◌, ◌≢◌, ℕ, ℤ, pos, ◌+◌, ◌<◌, ◌≤◌, ◌^◌, true, false, nat_eq, set, List, [], ◌∷◌, ◌++◌, length, get_or, replicate, refl, sym, ap, subst, ◌∙◌, arith, ◌⊎◌, inl, inr}
use Rattle.std.proofs.lemmas.Bool.Decides.{nat_tests}
use Rattle.std.proofs.lemmas.List.{length-replicate, get_or-set_same, get_or-set_other}
use mir.Syntax.{w64}
use Rattle.std.specs.Int.{cast_unsigned}
use Rattle.f3_raw.specs.Words.{written}
use Rattle.f3_heap_laws.specs.Account.{r}
use Rattle.f3_heap_laws.specs.Placed.{extent}
use Rattle.f3_heap_laws.specs.Segments.{Segment, Used, Free, seg_size, seg_block, used_words, first_free, Lays, NoneFits, FitsAt, segments, free_size_of, with_next, with_prev, freed, Cuts, IsHeap, UsedAt, Around, AllFree}
use Rattle.f3_heap_laws.specs.Hints.{HintFrom, AreHints, classes, width, moved, lowered, CutsTo}
use Rattle.f3_heap_laws.proofs.Relink.{segments-lays}
use Rattle.f3_heap_laws.proofs.BlockReads.{free-head, free-next, split-ends, seg-extent-append}
use Rattle.f3_heap_laws.proofs.Neighbours.{segments-before}
use Rattle.f3_heap_laws.proofs.Changing.{front_words, back_words, change-laid}
use Rattle.f3_heap_laws.proofs.Giving.{run-end}
use Rattle.f3_heap_laws.proofs.Segs.{seg_positive}
use Rattle.f3_heap_laws.proofs.HeapLaws.{cut-laid, end-laid, free-laid, close-laid, joined_junk}
use Rattle.f3_heap_laws.proofs.HintLaws.{hint-none, hint-fits, hint-cut, hint-longer, hint-changed, hint-front, hint-closed, hint-joined}

three_one : (n : ℕ) → (n + 3) + 1 ≡ n + 4
three_one n = omega arith

none_left : (left : List Segment) → (left ≡ []) ⊎ ((more : List ℤ) × (left ≡ Free more ∷ [])) → extent seg_block seg_size left ≡ 0 → left ≡ []
none_left left (inl e) z = e
none_left left (inr m) z = absurd (omega (arith, z, ap (extent seg_block seg_size) m.1))

some_left : (none p : ℕ) (left back : List Segment) → (left ≡ []) ⊎ ((more : List ℤ) × (left ≡ Free more ∷ [])) → 0 < extent seg_block seg_size left → first_free none p (left ++ back) ≡ p
some_left none p left back (inl e) z = absurd (omega (arith, z, ap (extent seg_block seg_size) e))
some_left none p left back (inr m) z = ap (λ l. first_free none p (l ++ back)) m.1

-- the next free block after a cut
module _ (none n : ℕ) (segs : List Segment) (ws : List ℤ) (first end at : ℕ) (h : Lays none segs ws first end) (first' : ℕ) (ws' : List ℤ) (c : Cuts none n segs at first' end ws')
    (run next : ℕ) (er : run ≡ free_size_of (get_or ws at (pos 0))) (en : next ≡ cast_unsigned w64 (get_or ws (at + 1) (pos 0))) where
  run_is : run ≡ length c.junk + 4
  run_is = er ∙ ap free_size_of (free-head none segs ws first end h c.front c.junk c.back at c.split c.place) ∙ three_one (length c.junk)

  next_is : next ≡ first_free none (at + (length c.junk + 4)) c.back
  next_is = en ∙ ap (cast_unsigned w64) (free-next none segs ws first end h c.front c.junk c.back at c.split c.place)

  pub cuts-split : n < run → CutsTo none n segs at (at + n) first' end ws'
  cuts-split lt = record { cuts = c; behind = sym (some_left none (at + n) c.left c.back c.free (omega (arith, c.sizes, run_is))) }

  pub cuts-exact : run ≤ n → CutsTo none n segs at next first' end ws'
  cuts-exact le =
      let e : at + (length c.junk + 4) ≡ at + n = omega (arith, c.sizes, run_is) in
      record { cuts = c; behind = next_is ∙ (λ i. first_free none (e i) (sym (none_left c.left c.free (omega (arith, c.sizes, run_is))) i ++ c.back)) }

empty_of_extent : (ss : List Segment) → extent seg_block seg_size ss ≡ 0 → ss ≡ []
empty_of_extent [] e = refl
empty_of_extent (s ∷ ss) e = absurd (omega (arith, seg_positive s))

left_free : (left : List Segment) → (left ≡ []) ⊎ ((more : List ℤ) × (left ≡ Free more ∷ [])) → AllFree left
left_free left (inl e) = subst AllFree (sym e) tt
left_free left (inr m) = subst AllFree (sym m.1) tt

-- hints in segments that are laid
laid_hints : (size : ℕ) (segs : List Segment) (ws : List ℤ) (first end : ℕ) (hints : List ℕ) → Lays size segs ws first end → AreHints size segs hints → AreHints size (segments ws end) hints
laid_hints size segs ws first end hints h k = subst (λ (ss : List Segment). AreHints size ss hints) (sym (segments-lays size segs ws first end h)) k

-- hints, kept by each operation
module _ (ws : List ℤ) (room size first end used : ℕ) (h : IsHeap ws room size first end used) (hints : List ℕ) (old : AreHints size (segments ws end) hints) where
  module _ (w at next first' : ℕ) (ws' : List ℤ) (c : CutsTo size (r w) (segments ws end) at next first' end ws') (new : List ℕ) (moves : (i : ℕ) → i < classes → get_or new i 0 ≡ moved at (at + 1) next (get_or hints i 0)) where
    cut_below : at < size
    cut_below = omega (arith, h.within, split-ends size (segments ws end) ws first end h.lays c.cuts.front (Free c.cuts.junk ∷ c.cuts.back) c.cuts.split, c.cuts.place)

    pub cut-hints : AreHints size (segments (written ws' at (used_words (replicate w (pos 0)) 0)) end) new
    cut-hints = laid_hints size _ _ first' end new (cut-laid ws room size first end used w at first' h ws' c.cuts) (λ i lt.
        subst (λ (k : ℕ). HintFrom size (width i) k 0 (c.cuts.front ++ (Used (replicate w (pos 0)) 0 ∷ (c.cuts.left ++ c.cuts.back)))) (sym (moves i lt))
        (hint-cut size (width i) at (r w) next (get_or hints i 0) c.cuts.front c.cuts.left c.cuts.back c.cuts.junk (replicate w (pos 0)) 0 c.cuts.place cut_below (ap r (length-replicate w (pos 0))) c.cuts.sizes (left_free c.cuts.left c.cuts.free) c.behind
        (subst (HintFrom size (width i) (get_or hints i 0) 0) c.cuts.split (old i lt))))

  pub end-hints : (w : ℕ) → end + r w ≤ size → AreHints size (segments (written ws end (used_words (replicate w (pos 0)) 0)) (end + r w)) hints
  end-hints w fits = laid_hints size _ _ first (end + r w) hints (end-laid ws room size first end used w h fits) (λ i lt. hint-longer size (width i) (get_or hints i 0) 0 (segments ws end) (replicate w (pos 0)) 0 (old i lt))

  module _ (block at run prev next : ℕ) (g : Around size (segments ws end) block at run prev next) (new : List ℕ) where
    abbrev joined : List Segment
    joined = g.lefts ++ Used g.content g.pins ∷ g.rights

    ends : end ≡ (at + run) + extent seg_block seg_size g.back
    ends = run-end size (segments ws end) ws first end block at run prev next h.lays h.within g

    pub free-hints : at + run ≢ end → ((i : ℕ) → i < classes → get_or new i 0 ≡ lowered (width i) at run (get_or hints i 0))
        → AreHints size (segments (with_prev (with_next (freed ws at run next prev) size prev at) size next at) end) new
    free-hints more lowers =
        let laid = free-laid ws room size first end used block at run prev next h g more in
        let junk = joined_junk ws room size first end used block at run prev next h g more in
        let len : length junk + 4 ≡ run = omega (arith, laid.ends, seg-extent-append g.front (Free junk ∷ g.back), ends, g.place) in
        laid_hints size _ _ _ end new laid (λ i lt.
        subst (λ (k : ℕ). HintFrom size (width i) k 0 (g.front ++ (Free junk ∷ g.back))) (sym (lowers i lt))
        (hint-joined size (width i) at run (get_or hints i 0) g.front joined g.back junk g.place g.sizes len (omega (arith, ends, h.within))
        (subst (HintFrom size (width i) (get_or hints i 0) 0) g.split (old i lt))))

    pub close-hints : at + run ≡ end → ((i : ℕ) → i < classes → get_or new i 0 ≡ moved at size size (get_or hints i 0)) → AreHints size (segments (with_next ws size prev size) at) new
    close-hints last moves =
        laid_hints size _ _ _ at new (close-laid ws room size first end used block at run prev next h g last) (λ i lt.
        subst (λ (k : ℕ). HintFrom size (width i) k 0 g.front) (sym (moves i lt))
        (hint-closed size (width i) at (get_or hints i 0) g.front (joined ++ g.back) g.place (omega (arith, seg-extent-append joined g.back, ends, g.sizes, h.within))
        (subst (HintFrom size (width i) (get_or hints i 0) 0) g.split (old i lt))))

  pub last-hints : (at : ℕ) (u : UsedAt (segments ws end) at) → at + r (length u.content) ≡ end → AreHints size (segments ws at) hints
  last-hints at u last =
      let parts = split-ends size (segments ws end) ws first end h.lays u.front (Used u.content u.pins ∷ u.back) u.split in
      let nothing : u.back ≡ [] = empty_of_extent u.back (omega (arith, parts, u.place, last)) in
      subst (λ (ss : List Segment). AreHints size ss hints) (sym (segments-before size (segments ws end) ws first end h.lays u.front (Used u.content u.pins ∷ u.back) at u.split u.place)) (λ i lt.
      hint-front size (width i) (get_or hints i 0) 0 u.front u.content u.pins
      (subst (HintFrom size (width i) (get_or hints i 0) 0) (u.split ∙ ap (λ b. u.front ++ Used u.content u.pins ∷ b) nothing) (old i lt)))

  -- a live block's words or pins changed in place
  pub change-hints : (at : ℕ) (u : UsedAt (segments ws end) at) (content : List ℤ) (n : ℕ) (ws' : List ℤ) → length content ≡ length u.content → n < 2 ^ 64
      → ws' ≡ front_words size (segments ws end) ws first end at h.lays u ++ (used_words content n ++ back_words size (segments ws end) ws first end at h.lays u) → AreHints size (segments ws' end) hints
  change-hints at u content n ws' same small is =
      laid_hints size _ ws' first end hints (change-laid size (segments ws end) ws first end at h.lays u content n ws' same small is) (λ i lt.
      hint-changed size (width i) (get_or hints i 0) 0 u.front u.back u.content content u.pins n same (subst (HintFrom size (width i) (get_or hints i 0) 0) u.split (old i lt)))

-- a heap without blocks
pub new-hints : (ws : List ℤ) (size : ℕ) (hints : List ℕ) → ((i : ℕ) → i < classes → get_or hints i 0 ≡ size) → AreHints size (segments ws 0) hints
new-hints ws size hints are = laid_hints size [] ws size 0 hints (record { rest = ws; laid = refl; begins = refl; ends = refl; valid = tt }) are

-- hints at other names for the values
pub hints-at : (ws ws' : List ℤ) (size end end' : ℕ) (hints : List ℕ) → AreHints size (segments ws end) hints → ws' ≡ ws → end' ≡ end → AreHints size (segments ws' end') hints
hints-at ws ws' size end end' hints h e f = subst (λ (z : List ℤ). AreHints size (segments z end') hints) (sym e) (subst (λ (k : ℕ). AreHints size (segments ws k) hints) (sym f) h)

tested_eq : (m n : ℕ) → nat_eq m n ≡ true → m ≡ n
tested_eq m n e = grind (arith, nat_tests)

tested_ne : (m n : ℕ) → nat_eq m n ≡ false → m ≢ n
tested_ne m n e = grind (arith, nat_tests)

-- what a search finds is a hint
pub found-hint : (none n at : ℕ) (segs : List Segment) → (at ≢ none → FitsAt n segs at) → (at ≡ none → NoneFits n segs) → HintFrom none n at 0 segs
found-hint none n at segs fits lacking = elim (nat_eq at none) as (λ t. nat_eq at none ≡ t → HintFrom none n at 0 segs) [
  | true ↦ λ t. subst (λ (k : ℕ). HintFrom none n k 0 segs) (sym (tested_eq at none t)) (hint-none none n 0 segs (lacking (tested_eq at none t)))
  | false ↦ λ t. hint-fits none n at segs (fits (tested_ne at none t))
] refl

-- one hint moves on
pub set-hints : (none at class : ℕ) (segs : List Segment) (hints : List ℕ) → length hints ≡ classes → class < classes → AreHints none segs hints → HintFrom none (width class) at 0 segs → AreHints none segs (set hints class at)
set-hints none at class segs hints len lt old new = λ i below. elim (nat_eq i class) as (λ t. nat_eq i class ≡ t → HintFrom none (width i) (get_or (set hints class at) i 0) 0 segs) [
  | true ↦ λ t.
      let e = tested_eq i class t in
      subst (λ (k : ℕ). HintFrom none (width k) (get_or (set hints class at) k 0) 0 segs) (sym e)
      (subst (λ (k : ℕ). HintFrom none (width class) k 0 segs) (sym (get_or-set_same hints class at 0 (omega (arith, len, lt)))) new)
  | false ↦ λ t. subst (λ (k : ℕ). HintFrom none (width i) k 0 segs) (sym (get_or-set_other hints class i at 0 (tested_ne i class t))) (old i below)
] refl
