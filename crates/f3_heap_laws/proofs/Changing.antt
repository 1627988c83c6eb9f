-- A live block's words or pins change in place.
use Rattle.std.proofs.Common.{◌≡◌, ℕ, ℤ, pos, ◌+◌, ◌-◌, ◌^◌, ◌<◌, ◌≤◌, false, List, [], ◌∷◌, ◌++◌, length, take, drop, get_or, set, replicate, refl, sym, ap, subst, ◌∙◌, arith, append_assoc, append-nil, length-append, length-drop, length-take-le}
use Rattle.std.specs.List.{sum_by}
use Rattle.std.specs.FinMap.{insert}
use Rattle.std.proofs.lemmas.List.Sums.{sum_by-append, sum_by-cons}
use Rattle.std.proofs.lemmas.List.{set-append_left, length-set, take_at, drop_at, take_all, drop_all, drop-append-le, drop-drop, get_or_append_left, get_or-append-add, take-append-le}
use native.Mathlib.Decide.{dec_lt}
use Prim.{yes, no}
use mir.Syntax.{w64}
use Rattle.std.specs.Int.{cast_signed}
use Rattle.f3_raw.specs.Words.{overwritten, written}
use Rattle.f3_heap_laws.specs.Account.{r}
use Rattle.f3_live_blocks.specs.Blocks.{written_over}
use Rattle.f3_heap_laws.specs.Placed.{extent}
use Rattle.f3_heap_laws.specs.Segments.{Segment, Used, seg_size, seg_block, seg_used, used_words, first_free, last_free, cells, AreValid, Lays, segments, live_segments, IsHeap, AreApart, ends_free, UsedAt}
use Rattle.f3_heap_laws.proofs.Segs.{length-cells, set-append_right, AreValid-front, AreValid-back, AreValid-append, cells-append, first_free-append}
use Rattle.f3_heap_laws.proofs.Relink.{segments-lays}
use Rattle.f3_heap_laws.proofs.BlockReads.{seg-extent-append, laid-at, split-ends, read-block}
use Rattle.f3_heap_laws.proofs.LiveSegs.{change-live}
use Rattle.f3_heap_laws.proofs.Neighbours.{apart-append, apart-join, ends-append}
use Rattle.f3_heap_laws.proofs.HeapLaws.{heap-from}

-- the zeros and the tag behind a content of n words
abbrev pub tail_words : ℕ → List ℤ
tail_words n = replicate (r n - (n + 3)) (pos 0) ++ pos n ∷ []

from_zero : (n : ℕ) → 0 + n ≡ n
from_zero n = omega arith

two_in : (at i : ℕ) → at + 2 + i ≡ at + (2 + i)
two_in at i = omega arith

parts : (none : ℕ) (xs ys : List Segment) → cells none none 0 (xs ++ ys) ≡ cells none (first_free none (extent seg_block seg_size xs) ys) 0 xs ++ cells (last_free none 0 xs) none (extent seg_block seg_size xs) ys
parts none xs ys = cells-append none none 0 xs ys ∙ ap (λ k. cells none (first_free none k ys) 0 xs ++ cells (last_free none 0 xs) none k ys) (from_zero (extent seg_block seg_size xs))

first_parts : (none : ℕ) (xs ys : List Segment) → first_free none 0 (xs ++ ys) ≡ first_free (first_free none (extent seg_block seg_size xs) ys) 0 xs
first_parts none xs ys = first_free-append none 0 xs ys ∙ ap (λ k. first_free (first_free none k ys) 0 xs) (from_zero (extent seg_block seg_size xs))

-- the word number 2 + i, past two words
inner : (a b : ℤ) (xs ys zs : List ℤ) (i : ℕ) → get_or (((a ∷ b ∷ xs) ++ ys) ++ zs) (2 + i) (pos 0) ≡ get_or (xs ++ (ys ++ zs)) i (pos 0)
inner a b xs ys zs i = ap (λ l. get_or l (2 + i) (pos 0)) (append_assoc (a ∷ b ∷ xs) ys zs) ∙ get_or-append-add (a ∷ b ∷ []) (xs ++ (ys ++ zs)) i (pos 0)

refilled : (t old : List ℤ) → length t ≤ length old → length (t ++ drop (length t) old) ≡ length old
refilled t old h = omega (arith, length-append t (drop (length t) old), length-drop (length t) old)

-- a run written over the front of a part
pub overwritten-is : (a c d t : List ℤ) (at : ℕ) → length a ≡ at → length t ≤ length c → overwritten (a ++ (c ++ d)) at t ≡ a ++ ((t ++ drop (length t) c) ++ d)
overwritten-is a c d t at e small =
    let whole : written (a ++ (c ++ d)) at t ≡ a ++ ((t ++ drop (length t) c) ++ d) =
    (λ i. take_at a (c ++ d) at e i ++ (t ++ (sym (drop-drop (length t) at (a ++ (c ++ d))) ∙ ap (drop (length t)) (drop_at a (c ++ d) at e) ∙ drop-append-le (length t) c d small) i))
    ∙ ap (λ z. a ++ z) (sym (append_assoc t (drop (length t) c) d)) in
    ap (take (length (a ++ (c ++ d)))) whole
    ∙ take_all (length (a ++ (c ++ d))) (a ++ ((t ++ drop (length t) c) ++ d)) (omega (arith, length-append a (c ++ d), length-append c d, length-append a ((t ++ drop (length t) c) ++ d), length-append (t ++ drop (length t) c) d, refilled t c small))

-- what is left where any words are written behind a reference
pub over-is : (w old : List ℤ) → take (length old) w ++ drop (length (take (length old) w)) old ≡ written_over old w
over-is w old = elim (dec_lt (length w) (length old)) [
  | yes l ↦ ap (λ t. t ++ drop (length t) old) (take_all (length old) w (omega arith)) ∙ sym (take_all (length old) (w ++ drop (length w) old) (omega (arith, length-append w (drop (length w) old), length-drop (length w) old)))
  | no n ↦ let le : length old ≤ length w = omega arith in
      ap (λ k. take (length old) w ++ drop k old) (length-take-le (length old) w le) ∙ ap (λ z. take (length old) w ++ z) (drop_all (length old) old (omega arith)) ∙ append-nil (take (length old) w) ∙ sym (take-append-le (length old) w (drop (length w) old) le)
]

module _ (none : ℕ) (segs : List Segment) (ws : List ℤ) (first end at : ℕ) (h : Lays none segs ws first end) (u : UsedAt segs at) where
  abbrev pub front_words : List ℤ
  front_words = cells none (first_free none (extent seg_block seg_size u.front) (Used u.content u.pins ∷ u.back)) 0 u.front

  abbrev pub back_words : List ℤ
  back_words = cells (last_free none 0 u.front) none (extent seg_block seg_size u.front + r (length u.content)) u.back ++ h.rest

  pub front-at : length front_words ≡ at
  front-at = length-cells none (first_free none (extent seg_block seg_size u.front) (Used u.content u.pins ∷ u.back)) 0 u.front ∙ sym u.place

  pub block-laid : ws ≡ front_words ++ (used_words u.content u.pins ++ back_words)
  block-laid = laid-at none segs ws first end h u.front (Used u.content u.pins ∷ u.back) u.split ∙ ap (λ z. front_words ++ z) (append_assoc (used_words u.content u.pins) (cells (last_free none 0 u.front) none (extent seg_block seg_size u.front + r (length u.content)) u.back) h.rest)

  -- another content of the same length, and other pins
  pub change-laid : (new : List ℤ) (n : ℕ) (ws' : List ℤ) → length new ≡ length u.content → n < 2 ^ 64 → ws' ≡ front_words ++ (used_words new n ++ back_words) → Lays none (u.front ++ Used new n ∷ u.back) ws' first end
  change-laid new n ws' same small is =
      let valid = subst AreValid u.split h.valid in
      let q = extent seg_block seg_size u.front in
      let size : r (length u.content) ≡ r (length new) = ap r (sym same) in
      record {
        rest = h.rest;
        laid = is
            ∙ ap (λ k. cells none (first_free none (q + k) u.back) 0 u.front ++ (used_words new n ++ (cells (last_free none 0 u.front) none (q + k) u.back ++ h.rest))) size
            ∙ ap (λ z. cells none (first_free none (q + r (length new)) u.back) 0 u.front ++ z) (sym (append_assoc (used_words new n) (cells (last_free none 0 u.front) none (q + r (length new)) u.back) h.rest))
            ∙ sym (append_assoc (cells none (first_free none (q + r (length new)) u.back) 0 u.front) (cells (last_free none 0 u.front) none q (Used new n ∷ u.back)) h.rest)
            ∙ ap (λ z. z ++ h.rest) (sym (parts none u.front (Used new n ∷ u.back)));
        begins = h.begins ∙ ap (first_free none 0) u.split ∙ first_parts none u.front (Used u.content u.pins ∷ u.back) ∙ ap (λ k. first_free (first_free none (q + k) u.back) 0 u.front) size ∙ sym (first_parts none u.front (Used new n ∷ u.back));
        ends = omega (arith, split-ends none segs ws first end h u.front (Used u.content u.pins ∷ u.back) u.split, seg-extent-append u.front (Used new n ∷ u.back), size);
        valid = AreValid-append u.front (Used new n ∷ u.back) (AreValid-front u.front (Used u.content u.pins ∷ u.back) valid) (small, (AreValid-back u.front (Used u.content u.pins ∷ u.back) valid).1);
      }

  -- a content word
  pub content-word : (i : ℕ) → i < length u.content → get_or ws (at + 2 + i) (pos 0) ≡ get_or u.content i (pos 0)
  content-word i lt =
      ap (λ k. get_or ws k (pos 0)) (two_in at i)
      ∙ read-block none segs ws first end h u.front (Used u.content u.pins ∷ u.back) at (2 + i) (pos 0) u.split u.place
      ∙ inner (pos (length u.content)) (cast_signed w64 u.pins) _ _ h.rest i
      ∙ get_or_append_left (u.content ++ tail_words (length u.content)) (cells (last_free none 0 u.front) none (extent seg_block seg_size u.front + r (length u.content)) u.back ++ h.rest) (pos 0) i (omega (arith, length-append u.content (tail_words (length u.content))))
      ∙ get_or_append_left u.content (tail_words (length u.content)) (pos 0) i lt

  pub write-words : (i : ℕ) (v : ℤ) → i < length u.content → set ws (at + 2 + i) v ≡ front_words ++ (used_words (set u.content i v) u.pins ++ back_words)
  write-words i v lt =
      (λ j. set (block-laid j) (two_in at i j) v)
      ∙ set-append_right front_words (used_words u.content u.pins ++ back_words) at (2 + i) v front-at
      ∙ ap (λ z. front_words ++ z) (set-append_right (pos (length u.content) ∷ cast_signed w64 u.pins ∷ []) ((u.content ++ tail_words (length u.content)) ++ back_words) 2 i v refl
      ∙ ap (λ z. pos (length u.content) ∷ cast_signed w64 u.pins ∷ z) (set-append_left (u.content ++ tail_words (length u.content)) back_words i v (omega (arith, length-append u.content (tail_words (length u.content)))) ∙ ap (λ z. z ++ back_words) (set-append_left u.content (tail_words (length u.content)) i v lt))
      ∙ ap (λ n. pos n ∷ cast_signed w64 u.pins ∷ ((set u.content i v ++ tail_words n) ++ back_words)) (sym (length-set u.content i v)))

  pub pin-words : (n : ℕ) → set ws (at + 1) (cast_signed w64 n) ≡ front_words ++ (used_words u.content n ++ back_words)
  pin-words n = ap (λ z. set z (at + 1) (cast_signed w64 n)) block-laid ∙ set-append_right front_words (used_words u.content u.pins ++ back_words) at 1 (cast_signed w64 n) front-at

  pub pair-words : (t : List ℤ) → length t ≤ length u.content → overwritten ws (at + 2) t ≡ front_words ++ (used_words (t ++ drop (length t) u.content) u.pins ++ back_words)
  pair-words t small =
      let a = front_words ++ (pos (length u.content) ∷ cast_signed w64 u.pins ∷ []) in
      let c = tail_words (length u.content) ++ back_words in
      let la : length a ≡ at + 2 = omega (arith, length-append front_words (pos (length u.content) ∷ cast_signed w64 u.pins ∷ []), front-at) in
      let is : ws ≡ a ++ (u.content ++ c) = block-laid ∙ ap (λ z. front_words ++ (pos (length u.content) ∷ cast_signed w64 u.pins ∷ z)) (append_assoc u.content (tail_words (length u.content)) back_words) ∙ sym (append_assoc front_words (pos (length u.content) ∷ cast_signed w64 u.pins ∷ []) (u.content ++ c)) in
      ap (λ z. overwritten z (at + 2) t) is ∙ overwritten-is a u.content c t (at + 2) la small
      ∙ append_assoc front_words (pos (length u.content) ∷ cast_signed w64 u.pins ∷ []) ((t ++ drop (length t) u.content) ++ c)
      ∙ ap (λ z. front_words ++ (pos (length u.content) ∷ cast_signed w64 u.pins ∷ z)) (sym (append_assoc (t ++ drop (length t) u.content) (tail_words (length u.content)) back_words))
      ∙ ap (λ n. front_words ++ (pos n ∷ cast_signed w64 u.pins ∷ (((t ++ drop (length t) u.content) ++ tail_words n) ++ back_words))) (sym (refilled t u.content small))

-- the invariant after such a change
module _ (ws : List ℤ) (room size first end used at : ℕ) (h : IsHeap ws room size first end used) (u : UsedAt (segments ws end) at) (new : List ℤ) (n : ℕ) (ws' : List ℤ) (same : length new ≡ length u.content) (small : n < 2 ^ 64)
    (is : ws' ≡ front_words size (segments ws end) ws first end at h.lays u ++ (used_words new n ++ back_words size (segments ws end) ws first end at h.lays u)) where
  laid : Lays size (u.front ++ Used new n ∷ u.back) ws' first end
  laid = change-laid size (segments ws end) ws first end at h.lays u new n ws' same small is

  apart_here : AreApart false u.front × AreApart (ends_free false u.front) (Used u.content u.pins ∷ u.back)
  apart_here = apart-append false u.front (Used u.content u.pins ∷ u.back) (subst (AreApart false) u.split h.apart)

  pub change-heap : IsHeap ws' room size first end used
  change-heap = heap-from ws' room size first end used (u.front ++ Used new n ∷ u.back) laid
      (apart-join false u.front (Used new n ∷ u.back) apart_here.0 apart_here.1)
      (ends-append false u.front (Used new n ∷ u.back) ∙ sym (ends-append false u.front (Used u.content u.pins ∷ u.back)) ∙ ap (ends_free false) (sym u.split) ∙ h.closed)
      (omega (arith, h.account, ap (sum_by seg_used) u.split, sum_by-append seg_used u.front (Used u.content u.pins ∷ u.back), sum_by-cons seg_used (Used u.content u.pins) u.back, sum_by-append seg_used u.front (Used new n ∷ u.back), sum_by-cons seg_used (Used new n) u.back, ap r same))
      h.within h.whole h.fits h.small

  pub change-view : (b : ℕ) → b ≡ at + 1 → live_segments (segments ws' end) ≡ insert (live_segments (segments ws end)) b (record { words = new; pins = n })
  change-view b e =
      ap live_segments (segments-lays size (u.front ++ Used new n ∷ u.back) ws' first end laid)
      ∙ change-live u.front u.back u.content new u.pins n b (omega (arith, u.place)) same
      ∙ ap (λ ss. insert (live_segments ss) b (record { words = new; pins = n })) (sym u.split)
