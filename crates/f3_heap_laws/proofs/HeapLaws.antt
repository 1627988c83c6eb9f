-- The invariant of a heap in a region, kept by each operation.
use Rattle.std.proofs.Common.{◌≡◌, ◌≢◌, ℕ, ℤ, pos, ◌+◌, ◌-◌, ◌%◌, ◌^◌, ◌<◌, ◌≤◌, Bool, true, false, cond, nat_eq, nat_le, List, [], ◌∷◌, ◌++◌, length, replicate, refl, sym, ap, subst, ◌∙◌, arith, append-nil, ◌⊎◌, inl, inr}
use Rattle.std.specs.Prelude.{None, Some}
use Rattle.std.specs.List.{sum_by, list_any}
use Rattle.std.specs.FinMap.{get, insert, remove}
use Rattle.std.proofs.lemmas.List.Sums.{sum_by-append, sum_by-cons}
use Rattle.std.proofs.lemmas.List.{length-replicate}
use Rattle.f3_raw.specs.Words.{written}
use Rattle.f3_heap_laws.specs.Account.{r}
use Rattle.f3_live_blocks.specs.Blocks.{with_taken}
use Rattle.f3_heap_laws.specs.Placed.{extent}
use Rattle.f3_heap_laws.specs.Gaps.{gaps, places, is_wide, first_wide}
use Rattle.f3_heap_laws.specs.Segments.{Segment, Used, Free, seg_size, seg_block, seg_used, used_words, Lays, segments, live_segments, NoneFits, FitsAt, Cuts, IsHeap, AreApart, ends_free, AllFree, BeginsLive, Around, with_next, with_prev, freed}
use Rattle.f3_heap_laws.proofs.Relink.{segments-lays}
use Rattle.f3_heap_laws.proofs.BlockReads.{seg-extent-append}
use Rattle.f3_heap_laws.proofs.Surgery.{end-takes}
use Rattle.f3_heap_laws.proofs.LiveSegs.{take-live, take-end, give-live, free-none, past-none}
use Rattle.f3_heap_laws.proofs.Neighbours.{apart-append, apart-join, ends-append}
use Rattle.f3_heap_laws.specs.FreeRuns.{free_runs}
use Rattle.f3_heap_laws.proofs.GapLaws.{gaps-segments, lacking-any, lacking-first, fits-any, fits-first}
use Rattle.f3_heap_laws.proofs.Giving.{give-free, give-laid, give-end, run-end, nothing-behind}

from_zero : (n : ℕ) → 0 + n ≡ n
from_zero n = omega arith

-- the same segments, written another way
pub relay : (none : ℕ) (segs : List Segment) (ws : List ℤ) (first end : ℕ) → Lays none segs ws first end → Lays none (segments ws end) ws first end
relay none segs ws first end h = subst (λ ss. Lays none ss ws first end) (sym (segments-lays none segs ws first end h)) h

pub used-le-extent : (segs : List Segment) → sum_by seg_used segs ≤ extent seg_block seg_size segs
used-le-extent [] = omega arith
used-le-extent (Used ws pins ∷ ss) = omega (arith, sum_by-cons seg_used (Used ws pins) ss, used-le-extent ss)
used-le-extent (Free junk ∷ ss) = omega (arith, sum_by-cons seg_used (Free junk) ss, used-le-extent ss)

-- an invariant, from segments that are laid
pub heap-from : (ws : List ℤ) (room size first end used : ℕ) (segs : List Segment) → Lays size segs ws first end → AreApart false segs → ends_free false segs ≡ false → used ≡ sum_by seg_used segs → end ≤ size → size % 4 ≡ 0 → size ≤ room → size < 2 ^ 60 → IsHeap ws room size first end used
heap-from ws room size first end used segs h apart closed account within whole fits small =
    let same = sym (segments-lays size segs ws first end h) in
    record {
      lays = subst (λ ss. Lays size ss ws first end) same h;
      apart = subst (AreApart false) same apart;
      closed = subst (λ ss. ends_free false ss ≡ false) same closed;
      account = account ∙ ap (sum_by seg_used) same;
      within = within;
      whole = whole;
      fits = fits;
      small = small;
    }

weaker_apart : (xs : List Segment) → AreApart true xs → AreApart false xs
weaker_apart [] h = tt
weaker_apart (Used ws pins ∷ xs) h = h
weaker_apart (Free junk ∷ xs) h = absurd h

weaker_closed : (xs : List Segment) → ends_free true xs ≡ false → ends_free false xs ≡ false
weaker_closed [] h = refl
weaker_closed (Used ws pins ∷ xs) h = h
weaker_closed (Free junk ∷ xs) h = h

after_free : (b : Bool) (junk : List ℤ) (xs : List Segment) → AreApart b (Free junk ∷ xs) → AreApart true xs
after_free true junk xs h = absurd h
after_free false junk xs h = h

any_live : (b c : Bool) (xs : List Segment) → BeginsLive xs → AreApart b xs → AreApart c xs
any_live b c [] l h = tt
any_live b c (Used ws pins ∷ xs) l h = h
any_live b c (Free junk ∷ xs) l h = absurd l

any_end : (b c : Bool) (xs : List Segment) → (xs ≡ [] → ⊥) → ends_free b xs ≡ ends_free c xs
any_end b c [] ne = absurd (ne refl)
any_end b c (Used ws pins ∷ xs) ne = refl
any_end b c (Free junk ∷ xs) ne = refl

left_free : (left : List Segment) → (left ≡ []) ⊎ ((more : List ℤ) × (left ≡ Free more ∷ [])) → AllFree left
left_free left (inl e) = subst AllFree (sym e) tt
left_free left (inr m) = subst AllFree (sym m.1) tt

left_apart : (left back : List Segment) → (left ≡ []) ⊎ ((more : List ℤ) × (left ≡ Free more ∷ [])) → AreApart true back → AreApart false (left ++ back)
left_apart left back (inl e) h = subst (λ l. AreApart false (l ++ back)) (sym e) (weaker_apart back h)
left_apart left back (inr m) h = subst (λ l. AreApart false (l ++ back)) (sym m.1) h

left_closed : (left back : List Segment) → (left ≡ []) ⊎ ((more : List ℤ) × (left ≡ Free more ∷ [])) → ends_free true back ≡ false → ends_free false (left ++ back) ≡ false
left_closed left back (inl e) h = ap (λ l. ends_free false (l ++ back)) e ∙ weaker_closed back h
left_closed left back (inr m) h = ap (λ l. ends_free false (l ++ back)) m.1 ∙ h

free_sum : (ss : List Segment) → AllFree ss → sum_by seg_used ss ≡ 0
free_sum [] f = refl
free_sum (Used ws pins ∷ ss) f = absurd f
free_sum (Free junk ∷ ss) f = omega (arith, sum_by-cons seg_used (Free junk) ss, free_sum ss f)

-- a block was cut from a free one and written
module _ (ws : List ℤ) (room size first end used w at first' : ℕ) (h : IsHeap ws room size first end used) (ws' : List ℤ) (c : Cuts size (r w) (segments ws end) at first' end ws') where
  same_size : r (length (replicate w (pos 0))) ≡ r w
  same_size = ap r (length-replicate w (pos 0))

  abbrev pub after : List Segment
  after = c.front ++ (Used (replicate w (pos 0)) 0 ∷ (c.left ++ c.back))

  old_apart : AreApart false c.front × AreApart (ends_free false c.front) (Free c.junk ∷ c.back)
  old_apart = apart-append false c.front (Free c.junk ∷ c.back) (subst (AreApart false) c.split h.apart)

  old_closed : ends_free true c.back ≡ false
  old_closed = sym (ends-append false c.front (Free c.junk ∷ c.back)) ∙ ap (ends_free false) (sym c.split) ∙ h.closed

  pub cut-laid : Lays size after (written ws' at (used_words (replicate w (pos 0)) 0)) first' end
  cut-laid = c.takes (replicate w (pos 0)) same_size

  pub cut-heap : IsHeap (written ws' at (used_words (replicate w (pos 0)) 0)) room size first' end (used + r w)
  cut-heap = heap-from _ room size first' end (used + r w) after cut-laid
      (apart-join false c.front (Used (replicate w (pos 0)) 0 ∷ (c.left ++ c.back)) old_apart.0 (left_apart c.left c.back c.free (after_free (ends_free false c.front) c.junk c.back old_apart.1)))
      (ends-append false c.front (Used (replicate w (pos 0)) 0 ∷ (c.left ++ c.back)) ∙ left_closed c.left c.back c.free old_closed)
      (omega (arith, h.account, ap (sum_by seg_used) c.split, sum_by-append seg_used c.front (Free c.junk ∷ c.back), sum_by-cons seg_used (Free c.junk) c.back, sum_by-append seg_used c.front (Used (replicate w (pos 0)) 0 ∷ (c.left ++ c.back)), sum_by-cons seg_used (Used (replicate w (pos 0)) 0) (c.left ++ c.back), sum_by-append seg_used c.left c.back, free_sum c.left (left_free c.left c.free), same_size))
      h.within h.whole h.fits h.small

  pub cut-live : (b : ℕ) → b ≡ at + 1 → live_segments (segments (written ws' at (used_words (replicate w (pos 0)) 0)) end) ≡ with_taken (live_segments (segments ws end)) b w
  cut-live b e =
      ap live_segments (segments-lays size after _ first' end cut-laid)
      ∙ take-live c.front c.back c.left c.junk (replicate w (pos 0)) 0 b (omega (arith, c.place)) (left_free c.left c.free) (omega (arith, same_size, c.sizes))
      ∙ ap (λ ss. insert (live_segments ss) b (record { words = replicate w (pos 0); pins = 0 })) (sym c.split)

  pub cut-fresh : (b : ℕ) → b ≡ at + 1 → get (live_segments (segments ws end)) b ≡ None
  cut-fresh b e = ap (λ ss. get (live_segments ss) b) c.split ∙ free-none c.front c.junk c.back b (omega (arith, c.place))

-- a block was taken behind all others
module _ (ws : List ℤ) (room size first end used w : ℕ) (h : IsHeap ws room size first end used) (fits : end + r w ≤ size) where
  end_same : r (length (replicate w (pos 0))) ≡ r w
  end_same = ap r (length-replicate w (pos 0))

  abbrev pub longer : List Segment
  longer = segments ws end ++ (Used (replicate w (pos 0)) 0 ∷ [])

  pub end-laid : Lays size longer (written ws end (used_words (replicate w (pos 0)) 0)) first (end + r w)
  end-laid = end-takes size (r w) (segments ws end) ws first end h.lays (replicate w (pos 0)) end_same

  pub end-heap : IsHeap (written ws end (used_words (replicate w (pos 0)) 0)) room size first (end + r w) (used + r w)
  end-heap = heap-from _ room size first (end + r w) (used + r w) longer end-laid
      (apart-join false (segments ws end) (Used (replicate w (pos 0)) 0 ∷ []) h.apart tt)
      (ends-append false (segments ws end) (Used (replicate w (pos 0)) 0 ∷ []))
      (omega (arith, h.account, sum_by-append seg_used (segments ws end) (Used (replicate w (pos 0)) 0 ∷ []), sum_by-cons seg_used (Used (replicate w (pos 0)) 0) [], end_same))
      fits h.whole h.fits h.small

  pub end-live : (b : ℕ) → b ≡ end + 1 → live_segments (segments (written ws end (used_words (replicate w (pos 0)) 0)) (end + r w)) ≡ with_taken (live_segments (segments ws end)) b w
  end-live b e =
      ap live_segments (segments-lays size longer _ first (end + r w) end-laid)
      ∙ take-end (segments ws end) (replicate w (pos 0)) 0 b (omega (arith, h.lays.ends))

  pub end-fresh : (b : ℕ) → b ≡ end + 1 → get (live_segments (segments ws end)) b ≡ None
  end-fresh b e = past-none (segments ws end) b (omega (arith, h.lays.ends))

-- a block was given back
module _ (ws : List ℤ) (room size first end used block at run prev next : ℕ) (h : IsHeap ws room size first end used) (g : Around size (segments ws end) block at run prev next) where
  abbrev pub parts : List Segment
  parts = g.lefts ++ Used g.content g.pins ∷ g.rights

  whole_apart : AreApart false g.front × AreApart (ends_free false g.front) (parts ++ g.back)
  whole_apart = apart-append false g.front (parts ++ g.back) (subst (AreApart false) g.split h.apart)

  back_apart : AreApart (ends_free (ends_free false g.front) parts) g.back
  back_apart = (apart-append (ends_free false g.front) parts g.back whole_apart.1).1

  given_sum : sum_by seg_used (segments ws end) ≡ sum_by seg_used g.front + r (length g.content) + sum_by seg_used g.back
  given_sum = omega (arith, ap (sum_by seg_used) g.split, sum_by-append seg_used g.front (parts ++ g.back), sum_by-append seg_used parts g.back, sum_by-append seg_used g.lefts (Used g.content g.pins ∷ g.rights), sum_by-cons seg_used (Used g.content g.pins) g.rights, free_sum g.lefts g.left_free, free_sum g.rights g.right_free)

  module _ (more : at + run ≢ end) where
    abbrev pub freed_words : List ℤ
    freed_words = with_prev (with_next (freed ws at run next prev) size prev at) size next at

    not_last : g.back ≡ [] → ⊥
    not_last e = more (omega (arith, run-end size (segments ws end) ws first end block at run prev next h.lays h.within g, ap (extent seg_block seg_size) e))

    abbrev pub joined_junk : List ℤ
    joined_junk = (give-free size (segments ws end) ws first end block at run prev next h.lays h.within g).junk

    pub free-laid : Lays size (g.front ++ (Free joined_junk ∷ g.back)) freed_words (cond (nat_eq prev size) at first) end
    free-laid = give-laid size (segments ws end) ws first end block at run prev next h.lays h.within g

    pub free-heap : IsHeap freed_words room size (cond (nat_eq prev size) at first) end (used - r (length g.content))
    free-heap = heap-from _ room size (cond (nat_eq prev size) at first) end (used - r (length g.content)) (g.front ++ (Free joined_junk ∷ g.back)) free-laid
        (apart-join false g.front (Free joined_junk ∷ g.back) whole_apart.0 (subst (λ b. AreApart b (Free joined_junk ∷ g.back)) (sym g.closed) (any_live _ true g.back g.opens back_apart)))
        (ends-append false g.front (Free joined_junk ∷ g.back) ∙ any_end true (ends_free (ends_free false g.front) parts) g.back not_last ∙ sym (ends-append false g.front (parts ++ g.back) ∙ ends-append (ends_free false g.front) parts g.back) ∙ ap (ends_free false) (sym g.split) ∙ h.closed)
        (omega (arith, h.account, given_sum, sum_by-append seg_used g.front (Free joined_junk ∷ g.back), sum_by-cons seg_used (Free joined_junk) g.back))
        h.within h.whole h.fits h.small

    pub free-live : (b : ℕ) → b ≡ block + 1 → live_segments (segments freed_words end) ≡ remove (live_segments (segments ws end)) b
    free-live b e =
        ap live_segments (segments-lays size (g.front ++ (Free joined_junk ∷ g.back)) _ (cond (nat_eq prev size) at first) end free-laid)
        ∙ give-live g.front g.lefts g.rights (Free joined_junk ∷ []) g.back g.content g.pins b g.left_free g.right_free tt (omega (arith, g.block_at, g.place)) (inr (omega (arith, free-laid.ends, h.lays.ends, ap (extent seg_block seg_size) g.split, seg-extent-append g.front (parts ++ g.back), seg-extent-append parts g.back, seg-extent-append g.front (Free joined_junk ∷ g.back))))
        ∙ ap (λ ss. remove (live_segments ss) b) (sym g.split)

  module _ (last : at + run ≡ end) where
    abbrev pub closed_words : List ℤ
    closed_words = with_next ws size prev size

    pub close-laid : Lays size g.front closed_words (cond (nat_eq prev size) size first) at
    close-laid = give-end size (segments ws end) ws first end block at run prev next h.lays h.within g last

    pub close-heap : IsHeap closed_words room size (cond (nat_eq prev size) size first) at (used - r (length g.content))
    close-heap = heap-from _ room size (cond (nat_eq prev size) size first) at (used - r (length g.content)) g.front close-laid whole_apart.0 g.closed
        (omega (arith, h.account, given_sum, ap (sum_by seg_used) (nothing-behind size (segments ws end) ws first end block at run prev next h.lays h.within g last)))
        (omega (arith, h.within)) h.whole h.fits h.small

    pub close-live : (b : ℕ) → b ≡ block + 1 → live_segments (segments closed_words at) ≡ remove (live_segments (segments ws end)) b
    close-live b e =
        ap live_segments (segments-lays size g.front _ (cond (nat_eq prev size) size first) at close-laid ∙ sym (append-nil g.front) ∙ ap (λ l. g.front ++ l) (sym (nothing-behind size (segments ws end) ws first end block at run prev next h.lays h.within g last)))
        ∙ give-live g.front g.lefts g.rights [] g.back g.content g.pins b g.left_free g.right_free tt (omega (arith, g.block_at, g.place)) (inl (nothing-behind size (segments ws end) ws first end block at run prev next h.lays h.within g last))
        ∙ ap (λ ss. remove (live_segments ss) b) (sym g.split)

-- the room, by the first fit and the words behind all
module _ (ws : List ℤ) (room size first end used w : ℕ) (h : IsHeap ws room size first end used) where
  pub heap-gaps : gaps (places (live_segments (segments ws end))) size ≡ free_runs 0 (segments ws end) (size - end)
  heap-gaps = gaps-segments (segments ws end) end size h.lays.ends h.within h.apart h.closed

  pub room-lacking : NoneFits (r w) (segments ws end) → list_any (is_wide w) (gaps (places (live_segments (segments ws end))) size) ≡ nat_le (r w) (size - end)
  room-lacking none = ap (list_any (is_wide w)) heap-gaps ∙ lacking-any w 0 (size - end) (segments ws end) none

  pub room-fits : (at : ℕ) → FitsAt (r w) (segments ws end) at → list_any (is_wide w) (gaps (places (live_segments (segments ws end))) size) ≡ true
  room-fits at f = ap (list_any (is_wide w)) (heap-gaps ∙ ap (λ ss. free_runs 0 ss (size - end)) f.split) ∙ fits-any w 0 (size - end) f.front f.junk f.back f.wide

  pub first-fits : (at : ℕ) → FitsAt (r w) (segments ws end) at → first_wide w (gaps (places (live_segments (segments ws end))) size) ≡ Some at
  first-fits at f = ap (first_wide w) (heap-gaps ∙ ap (λ ss. free_runs 0 ss (size - end)) f.split) ∙ fits-first w 0 (size - end) f.front f.junk f.back f.smaller f.wide ∙ ap Some (from_zero _ ∙ sym f.place)

  pub first-lacking : NoneFits (r w) (segments ws end) → r w ≤ size - end → first_wide w (gaps (places (live_segments (segments ws end))) size) ≡ Some end
  first-lacking none le = ap (first_wide w) heap-gaps ∙ lacking-first w 0 (size - end) (segments ws end) none le ∙ ap Some (from_zero _ ∙ sym h.lays.ends)
