-- A live block in a heap's region is changed.
use Rattle.std.proofs.Common.{◌≡◌, ◌≢◌, ℕ, ℤ, pos, ◌+◌, ◌-◌, ◌%◌, ◌<◌, ◌≤◌, ◌^◌, true, false, not, nat_eq, List, [], ◌∷◌, ◌++◌, length, take, drop, set, slice_range, refl, sym, ap, subst, ◌∙◌, arith, append_assoc, length-append, length-set, length-take, ◌⊎◌, inl, inr}
use Rattle.std.proofs.lemmas.List.{take_at, drop_at}
use Rattle.std.proofs.lemmas.Bool.Decides.{nat_tests}
use native.Mathlib.Decide.{dec_lt}
use Prim.{yes, no}
use mir.Syntax.{w64}
use Rattle.std.specs.Int.{cast_signed}
use Rattle.std.specs.List.{list_any, length_refill}
use Rattle.std.specs.FinMap.{insert, empty}
use Rattle.f3_raw.specs.Words.{overwritten, Apart}
use Rattle.f3_heap_laws.specs.Account.{r}
use Rattle.f3_live_blocks.specs.Blocks.{Heap, IsLive, words_of, pins_of, with_words, with_pins, written_over}
use Rattle.f3_heap_laws.specs.Placed.{extent}
use Rattle.f3_heap_laws.specs.Gaps.{gaps, places, is_wide}
use Rattle.f3_heap_laws.specs.Segments.{Segment, Used, Free, seg_size, seg_block, used_words, segments, live_segments, UsedAt, IsHeap, NoneFits, FitsAt}
use Rattle.f3_heap_laws.specs.Hints.{AreHints}
use Rattle.f3_heap_laws.proofs.HintHeaps.{change-hints}
use Rattle.f3_heap_laws.proofs.Segs.{r-above}
use Rattle.f3_heap_laws.proofs.Relink.{segments-lays}
use Rattle.f3_heap_laws.proofs.LiveSegs.{live-nil}
use Rattle.f3_heap_laws.proofs.Changing.{front_words, back_words, front-at, block-laid, tail_words, write-words, pin-words, pair-words, over-is, change-heap, change-view}
use Rattle.f3_heap_laws.proofs.HeapLaws.{heap-from, room-fits}
use Rattle.f3_heap_laws.proofs.BlockLaws.{room-full, room-behind}
use Rattle.f3_heap_laws.proofs.RawReads.{block, content-is, pins-is, pins-small}

tested_eq : (m n : ℕ) → nat_eq m n ≡ true → m ≡ n
tested_eq m n e = grind (arith, nat_tests)

tested_ne : (m n : ℕ) → nat_eq m n ≡ false → m ≢ n
tested_ne m n e = grind (arith, nat_tests)

back_sum : (a n : ℕ) → (a + n) - a ≡ n
back_sum a n = omega arith

take_most : (n : ℕ) (w : List ℤ) → length (take n w) ≤ n
take_most n w = omega (arith, length-take n w)

module _ (ws : List ℤ) (room size first end used : ℕ) (h : IsHeap ws room size first end used) (heap : Heap) (view : ◌≡◌ {A = Heap} (record { blocks = live_segments (segments ws end); size = size }) heap)
    (at b : ℕ) (is : at + 1 ≡ b) (live : IsLive heap.blocks b) where
  abbrev u : UsedAt (segments ws end) at
  u = block ws room size first end used h heap view at b is live

  same_words : words_of heap.blocks b ≡ u.content
  same_words = content-is ws room size first end used h heap view at b is live

  same_pins : pins_of heap.blocks b ≡ u.pins
  same_pins = pins-is ws room size first end used h heap view at b is live

  small : u.pins < 2 ^ 64
  small = pins-small ws room size first end used h heap view at b is live

  same_blocks : live_segments (segments ws end) ≡ heap.blocks
  same_blocks = ap (λ (k : Heap). k.blocks) view

  module _ (i : ℕ) (v : ℤ) (lt : i < length (words_of heap.blocks b)) (ws' : List ℤ) (e : ws' ≡ set ws (at + 2 + i) v) where
    within : i < length u.content
    within = omega (arith, ap length same_words)

    words : ws' ≡ front_words size (segments ws end) ws first end at h.lays u ++ (used_words (set u.content i v) u.pins ++ back_words size (segments ws end) ws first end at h.lays u)
    words = e ∙ write-words size (segments ws end) ws first end at h.lays u i v within

    pub write-heap : IsHeap ws' room size first end used
    write-heap = change-heap ws room size first end used at h u (set u.content i v) u.pins ws' (length-set u.content i v) small words

    pub write-hints : (hints : List ℕ) → AreHints size (segments ws end) hints → AreHints size (segments ws' end) hints
    write-hints hints old = change-hints ws room size first end used h hints old at u (set u.content i v) u.pins ws' (length-set u.content i v) small words

    pub write-view : live_segments (segments ws' end) ≡ with_words heap.blocks b (set (words_of heap.blocks b) i v)
    write-view = change-view ws room size first end used at h u (set u.content i v) u.pins ws' (length-set u.content i v) small words b (sym is)
        ∙ (λ j. insert (same_blocks j) b (record { words = set (sym same_words j) i v; pins = sym same_pins j }))

  module _ (n : ℕ) (fits : n < 2 ^ 64) (ws' : List ℤ) (e : ws' ≡ set ws (at + 1) (cast_signed w64 n)) where
    pins_words : ws' ≡ front_words size (segments ws end) ws first end at h.lays u ++ (used_words u.content n ++ back_words size (segments ws end) ws first end at h.lays u)
    pins_words = e ∙ pin-words size (segments ws end) ws first end at h.lays u n

    pub pin-heap : IsHeap ws' room size first end used
    pin-heap = change-heap ws room size first end used at h u u.content n ws' refl fits pins_words

    pub pin-hints : (hints : List ℕ) → AreHints size (segments ws end) hints → AreHints size (segments ws' end) hints
    pin-hints hints old = change-hints ws room size first end used h hints old at u u.content n ws' refl fits pins_words

    pub pin-view : live_segments (segments ws' end) ≡ with_pins heap.blocks b n
    pin-view = change-view ws room size first end used at h u u.content n ws' refl fits pins_words b (sym is)
        ∙ (λ j. insert (same_blocks j) b (record { words = sym same_words j; pins = n }))

  module _ (m : ℕ) (w : List ℤ) (em : m ≡ length (words_of heap.blocks b)) where
    len : m ≡ length u.content
    len = em ∙ ap length same_words

    over_length : length (written_over u.content w) ≡ length u.content
    over_length = sym (length_refill (length u.content) u.content w refl)

    pub pair-words-are : overwritten ws (at + 2) (take m w) ≡ front_words size (segments ws end) ws first end at h.lays u ++ (used_words (written_over u.content w) u.pins ++ back_words size (segments ws end) ws first end at h.lays u)
    pair-words-are =
        ap (λ k. overwritten ws (at + 2) (take k w)) len
        ∙ pair-words size (segments ws end) ws first end at h.lays u (take (length u.content) w) (take_most (length u.content) w)
        ∙ ap (λ z. front_words size (segments ws end) ws first end at h.lays u ++ (used_words z u.pins ++ back_words size (segments ws end) ws first end at h.lays u)) (over-is w u.content)

    pub pair-heap : IsHeap (overwritten ws (at + 2) (take m w)) room size first end used
    pair-heap = change-heap ws room size first end used at h u (written_over u.content w) u.pins _ over_length small pair-words-are

    pub pair-hints : (hints : List ℕ) → AreHints size (segments ws end) hints → AreHints size (segments (overwritten ws (at + 2) (take m w)) end) hints
    pair-hints hints old = change-hints ws room size first end used h hints old at u (written_over u.content w) u.pins _ over_length small pair-words-are

    pub pair-view : live_segments (segments (overwritten ws (at + 2) (take m w)) end) ≡ with_words heap.blocks b (written_over (words_of heap.blocks b) w)
    pair-view = change-view ws room size first end used at h u (written_over u.content w) u.pins _ over_length small pair-words-are b (sym is)
        ∙ (λ j. insert (same_blocks j) b (record { words = written_over (sym same_words j) w; pins = sym same_pins j }))

  -- the content as a run of the region's words
  pub content-run : (n : ℕ) → n ≡ length (words_of heap.blocks b) → slice_range ws (at + 2) (at + 2 + n) ≡ words_of heap.blocks b
  content-run n en =
      let x = front_words size (segments ws end) ws first end at h.lays u in
      let y = back_words size (segments ws end) ws first end at h.lays u in
      let a = x ++ (pos (length u.content) ∷ cast_signed w64 u.pins ∷ []) in
      let la : length a ≡ at + 2 = omega (arith, length-append x (pos (length u.content) ∷ cast_signed w64 u.pins ∷ []), front-at size (segments ws end) ws first end at h.lays u) in
      let laid : ws ≡ a ++ (u.content ++ (tail_words (length u.content) ++ y)) = block-laid size (segments ws end) ws first end at h.lays u ∙ ap (λ z. x ++ (pos (length u.content) ∷ cast_signed w64 u.pins ∷ z)) (append_assoc u.content (tail_words (length u.content)) y) ∙ sym (append_assoc x (pos (length u.content) ∷ cast_signed w64 u.pins ∷ []) (u.content ++ (tail_words (length u.content) ++ y))) in
      (λ j. take (back_sum (at + 2) n j) (drop (at + 2) (laid j)))
      ∙ ap (take n) (drop_at a (u.content ++ (tail_words (length u.content) ++ y)) (at + 2) la)
      ∙ take_at u.content (tail_words (length u.content) ++ y) n (sym (en ∙ ap length same_words))
      ∙ sym same_words

-- two blocks do not meet
pub splits-apart : (xs ys xs' ys' : List Segment) (s s' : Segment) → xs ++ s ∷ ys ≡ xs' ++ s' ∷ ys' → extent seg_block seg_size xs < extent seg_block seg_size xs' → extent seg_block seg_size xs + seg_size s ≤ extent seg_block seg_size xs'
splits-apart [] ys [] ys' s s' e lt = absurd (omega arith)
splits-apart [] ys (x ∷ xs') ys' s s' e lt = let k : s ≡ x = cc in omega (arith, ap seg_size k)
splits-apart (y ∷ xs) ys [] ys' s s' e lt = absurd (omega arith)
splits-apart (y ∷ xs) ys (x ∷ xs') ys' s s' e lt =
    let k : y ≡ x = cc in let t : xs ++ s ∷ ys ≡ xs' ++ s' ∷ ys' = cc in
    let z = ap seg_size k in
    omega (arith, splits-apart xs ys xs' ys' s s' t (omega (arith, z)), z)

pub blocks-apart : (segs : List Segment) (a b n m : ℕ) (u : UsedAt segs a) (v : UsedAt segs b) → a ≢ b → n ≡ length u.content → m ≡ length v.content → Apart (a + 2) n (b + 2) m
blocks-apart segs a b n m u v ne en em = elim (dec_lt a b) [
  | yes l ↦ inr (inr (inl (omega (arith, r-above (length u.content), u.place, v.place, en, splits-apart u.front u.back v.front v.back (Used u.content u.pins) (Used v.content v.pins) (sym u.split ∙ v.split) (omega (arith, u.place, v.place))))))
  | no k ↦ inr (inr (inr (omega (arith, r-above (length v.content), u.place, v.place, em, splits-apart v.front v.back u.front u.back (Used v.content v.pins) (Used u.content u.pins) (sym v.split ∙ u.split) (omega (arith, u.place, v.place))))))
]

-- a free block is wide enough, or none is
pub fits-or-none : (n : ℕ) (segs : List Segment) → (NoneFits n segs) ⊎ ((at : ℕ) × FitsAt n segs at)
fits-or-none n [] = inl tt
fits-or-none n (Used c p ∷ segs) = elim (fits-or-none n segs) [
  | inl k ↦ inl k
  | inr f ↦ inr (r (length c) + f.0, record { front = Used c p ∷ f.1.front; junk = f.1.junk; back = f.1.back; split = ap (λ l. Used c p ∷ l) f.1.split; place = ap (λ k. r (length c) + k) f.1.place; smaller = f.1.smaller; wide = f.1.wide })
]
fits-or-none n (Free j ∷ segs) = elim (dec_lt (length j + 4) n) [
  | yes l ↦ elim (fits-or-none n segs) [
    | inl k ↦ inl (l, k)
    | inr f ↦ inr ((length j + 4) + f.0, record { front = Free j ∷ f.1.front; junk = f.1.junk; back = f.1.back; split = ap (λ t. Free j ∷ t) f.1.split; place = ap (λ k. (length j + 4) + k) f.1.place; smaller = (l, f.1.smaller); wide = f.1.wide })
  ]
  | no k ↦ inr (0, record { front = []; junk = j; back = segs; split = refl; place = refl; smaller = tt; wide = omega arith })
]

module _ (ws : List ℤ) (room size first end used : ℕ) (h : IsHeap ws room size first end used) (w n : ℕ) (e : n ≡ r w) where
  pub room-wide : n ≤ size - end → list_any (is_wide w) (gaps (places (live_segments (segments ws end))) size) ≡ true
  room-wide le = elim (fits-or-none n (segments ws end)) [
    | inl k ↦ room-behind ws room size first end used h w n e k le
    | inr f ↦ room-fits ws room size first end used w h f.0 (subst (λ (k : ℕ). FitsAt k (segments ws end) f.0) e f.1)
  ]

  pub room-search : (at : ℕ) → (at ≢ size → FitsAt n (segments ws end) at) → (at ≡ size → NoneFits n (segments ws end)) → size - end < n → not (nat_eq at size) ≡ list_any (is_wide w) (gaps (places (live_segments (segments ws end))) size)
  room-search at found lacking lt = elim (nat_eq at size) as (λ t. nat_eq at size ≡ t → not t ≡ list_any (is_wide w) (gaps (places (live_segments (segments ws end))) size)) [
    | true ↦ λ t. sym (room-full ws room size first end used h w n e (lacking (tested_eq at size t)) lt)
    | false ↦ λ t. sym (room-fits ws room size first end used w h at (subst (λ (k : ℕ). FitsAt k (segments ws end) at) e (found (tested_ne at size t))))
  ] refl

-- a new heap
pub new-heap : (ws : List ℤ) (room size : ℕ) → ws ≡ [] → size % 4 ≡ 0 → size ≤ room → size < 2 ^ 60 → IsHeap ws room size size 0 0
new-heap ws room size e fours fits small = heap-from ws room size size 0 0 [] (record { rest = ws; laid = refl; begins = refl; ends = refl; valid = tt }) tt refl refl (omega arith) fours fits small

pub new-view : (ws : List ℤ) (size : ℕ) → live_segments (segments ws 0) ≡ empty
new-view ws size = ap live_segments (segments-lays size [] ws size 0 (record { rest = ws; laid = refl; begins = refl; ends = refl; valid = tt })) ∙ live-nil
