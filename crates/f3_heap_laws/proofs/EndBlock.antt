-- The last block, where a live block or nothing stands before it: it is cut off, and no word changes.
use Rattle.std.proofs.Common.{◌≡◌, ℕ, ℤ, pos, ◌+◌, ◌-◌, ◌<◌, ◌≤◌, false, cond, nat_eq, List, [], ◌∷◌, ◌++◌, length, get_or, refl, sym, ap, subst, ◌∙◌, arith}
use Rattle.std.specs.FinMap.{remove}
use Rattle.std.specs.List.{sum_by}
use Rattle.std.proofs.lemmas.List.Sums.{sum_by-append, sum_by-cons}
use Rattle.f3_heap_laws.specs.Account.{r}
use Rattle.f3_heap_laws.specs.Placed.{extent}
use Rattle.f3_heap_laws.specs.Segments.{Segment, Used, seg_size, seg_block, seg_used, first_free, last_free, cells, segments, live_segments, free_size_of, ends_free, BeginsLive, IsHeap, UsedAt, Around, with_next}
use Rattle.f3_heap_laws.proofs.Segs.{seg_positive, first_free-append}
use Rattle.f3_heap_laws.proofs.Relink.{relink-next, refirst}
use Rattle.f3_heap_laws.proofs.BlockReads.{laid-at, split-ends}
use Rattle.f3_heap_laws.proofs.Neighbours.{left-case, LeftCase, live_left, free_left}
use Rattle.f3_heap_laws.proofs.HeapLaws.{close-heap, close-live}

empty_of_extent : (ss : List Segment) → extent seg_block seg_size ss ≡ 0 → ss ≡ []
empty_of_extent [] e = refl
empty_of_extent (s ∷ ss) e = absurd (omega (arith, seg_positive s))

-- a live block's words are accounted for
pub used-above : (ws : List ℤ) (room size first end used at : ℕ) (h : IsHeap ws room size first end used) (u : UsedAt (segments ws end) at) → r (length u.content) ≤ used
used-above ws room size first end used at h u =
    omega (arith, h.account, ap (sum_by seg_used) u.split, sum_by-append seg_used u.front (Used u.content u.pins ∷ u.back), sum_by-cons seg_used (Used u.content u.pins) u.back)

module _ (ws : List ℤ) (room size first end used at : ℕ) (h : IsHeap ws room size first end used) (u : UsedAt (segments ws end) at) (last : at + r (length u.content) ≡ end)
    (left : ℕ) (start : at ≡ 0 → left ≡ 0) (tag : 0 < at → left ≡ free_size_of (get_or ws (at - 1) (pos 0))) (alone : left ≡ 0) where
  parts : end ≡ extent seg_block seg_size u.front + (r (length u.content) + extent seg_block seg_size u.back)
  parts = split-ends size (segments ws end) ws first end h.lays u.front (Used u.content u.pins ∷ u.back) u.split

  nothing : u.back ≡ []
  nothing = empty_of_extent u.back (omega (arith, parts, u.place, last))

  live_before : LeftCase u.front left → ends_free false u.front ≡ false
  live_before (live_left l c) = c
  live_before (free_left f j e l) = absurd (omega (arith, l, alone))

  abbrev pub before : ℕ
  before = last_free size 0 u.front

  -- the run is the block itself
  around-last : Around size (segments ws end) at at (r (length u.content)) before (first_free size (at + r (length u.content)) u.back)
  around-last = record {
    front = u.front;
    lefts = [];
    content = u.content;
    pins = u.pins;
    rights = [];
    back = u.back;
    split = u.split;
    left_free = tt;
    right_free = tt;
    place = u.place;
    sizes = omega arith;
    block_at = omega arith;
    before = refl;
    behind = refl;
    closed = live_before (left-case size (segments ws end) ws first end at h.lays h.within u.front u.content u.pins u.back u.split u.place left start tag);
    opens = subst BeginsLive (sym nothing) tt;
  }

  fits_front : extent seg_block seg_size u.front ≤ size
  fits_front = omega (arith, parts, h.within)

  after : List ℤ
  after = cells before size (extent seg_block seg_size u.front) (Used u.content u.pins ∷ u.back) ++ h.lays.rest

  words : ws ≡ cells size size 0 u.front ++ after
  unfolding after
  words =
      laid-at size (segments ws end) ws first end h.lays u.front (Used u.content u.pins ∷ u.back) u.split
      ∙ ap (λ b. cells size (first_free size (extent seg_block seg_size u.front) (Used u.content u.pins ∷ b)) 0 u.front ++ (cells before size (extent seg_block seg_size u.front) (Used u.content u.pins ∷ u.back) ++ h.lays.rest)) nothing

  same_words : with_next ws size before size ≡ ws
  same_words = ap (λ w. with_next w size before size) words ∙ relink-next size u.front size size after fits_front ∙ sym words

  first_is : first ≡ first_free size 0 u.front
  first_is =
      h.lays.begins ∙ ap (first_free size 0) u.split ∙ first_free-append size 0 u.front (Used u.content u.pins ∷ u.back)
      ∙ ap (λ b. first_free (first_free size (0 + extent seg_block seg_size u.front) (Used u.content u.pins ∷ b)) 0 u.front) nothing

  same_first : cond (nat_eq before size) size first ≡ first
  same_first = ap (λ k. cond (nat_eq before size) size k) first_is ∙ refirst size u.front size size after fits_front ∙ sym first_is

  pub last-heap : IsHeap ws room size first at (used - r (length u.content))
  unfolding around-last
  last-heap =
      subst (λ (w : List ℤ). IsHeap w room size first at (used - r (length u.content))) same_words
      (subst (λ (k : ℕ). IsHeap (with_next ws size before size) room size k at (used - r (length u.content))) same_first
      (close-heap ws room size first end used at at (r (length u.content)) before (first_free size (at + r (length u.content)) u.back) h around-last last))

  pub last-live : live_segments (segments ws at) ≡ remove (live_segments (segments ws end)) (at + 1)
  last-live =
      ap (λ w. live_segments (segments w at)) (sym same_words)
      ∙ close-live ws room size first end used at at (r (length u.content)) before (first_free size (at + r (length u.content)) u.back) h around-last last (at + 1) refl
