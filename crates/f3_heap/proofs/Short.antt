-- No block has many words.
use Rattle.std.proofs.Common.{◌≡◌, ◌<◌, ◌+◌, ◌^◌, ℕ, ℤ, suc, zero, List, [], ◌∷◌, length, refl, sym, ap, ◌∙◌, subst, arith, IsTrue, is_some, get_or}
use Rattle.std.specs.Prelude.{Option, Some, None}
use Rattle.std.specs.FinMap.{get}
use Rattle.f3_live_blocks.specs.Blocks.{Block, Heap, Live, IsLive, words_of, words_in}
use Rattle.f3_heap_laws.specs.Segments.{Segment, seg_block, seg_size, segments, live_segments, IsHeap}
use Rattle.f3_heap_laws.proofs.Segs.{seg_positive}
use Rattle.f3_heap_laws.proofs.Placed.{get-live, find-before}
use Rattle.f3_heap_laws.proofs.RawReads.{block-small, content-is}
use Rattle.f3_heap.specs.declared.plain.Slot.{Slot}
use Rattle.f3_heap.specs.Plain.{slot_block, one_each, live_slots}
use Rattle.f3_heap.proofs.Slots.{live-within, slot-words}

none_live : (o : Option Block) → o ≡ None → IsTrue (is_some o) → ⊥
none_live o e h = cc

-- where live blocks have few words all have, since others have none
short_where_live : (m : Live) → ((b : ℕ) → IsLive m b → length (words_of m b) < 2 ^ 63) → (b : ℕ) → length (words_of m b) < 2 ^ 63
short_where_live m few b = by_block (get m b) refl where
  by_block : (o : Option Block) → get m b ≡ o → length (words_of m b) < 2 ^ 63
  by_block None is = subst (λ (o : Option Block). length (words_in o) < 2 ^ 63) (sym is) (omega arith)
  by_block (Some x) is = few b (subst (λ (o : Option Block). IsTrue (is_some o)) (sym is) refl)

-- ---- in a region

zero_free : (segs : List Segment) → get (live_segments segs) 0 ≡ None
unfolding live_segments
zero_free segs = get-live seg_block seg_size seg_positive 1 segs 0 ∙ find-before seg_block seg_size seg_positive 0 1 segs (omega arith)

module _ (ws : List ℤ) (room size first end used : ℕ) (h : IsHeap ws room size first end used) (heap : Heap) (view : ◌≡◌ {A = Heap} (record { blocks = live_segments (segments ws end); size = size }) heap) where
  region_live : (b : ℕ) → IsLive heap.blocks b → length (words_of heap.blocks b) < 2 ^ 63
  region_live zero live = absurd (none_live _ (ap (λ (k : Heap). get k.blocks 0) (sym view) ∙ zero_free (segments ws end)) live)
  region_live (suc at) live =
      let one : at + 1 ≡ suc at = omega arith in
      let small = block-small ws room size first end used h heap view at (suc at) one live in
      let same = ap length (content-is ws room size first end used h heap view at (suc at) one live) in
      omega (arith, small, same)

  pub region_short : (b : ℕ) → length (words_of heap.blocks b) < 2 ^ 63
  region_short = short_where_live heap.blocks region_live

-- ---- in slots

one_positive : (s : Slot) → 0 < one_each s
one_positive s = omega arith

zero_empty : (slots : List Slot) → get (live_slots slots) 0 ≡ None
unfolding live_slots
zero_empty slots = get-live slot_block one_each one_positive 1 slots 0 ∙ find-before slot_block one_each one_positive 0 1 slots (omega arith)

slots_live : (slots : List Slot) (b : ℕ) → IsLive (live_slots slots) b → length (words_of (live_slots slots) b) < 2 ^ 63
slots_live slots zero live = absurd (none_live _ (zero_empty slots) live)
slots_live [] (suc at) live = absurd (let in_it : at < length {A = Slot} [] = live-within [] at (suc at) (omega arith) live in omega (arith, in_it))
slots_live (s ∷ slots) (suc at) live =
    let same = ap length (slot-words (s ∷ slots) at (suc at) s (omega arith) live) in
    let words = (get_or (s ∷ slots) at s).words in
    omega (arith, same, words.ok.0, words.ok.1, words.small)

pub slots_short : (slots : List Slot) (b : ℕ) → length (words_of (live_slots slots) b) < 2 ^ 63
slots_short slots = short_where_live (live_slots slots) (slots_live slots)
