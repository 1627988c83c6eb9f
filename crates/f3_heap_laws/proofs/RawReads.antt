-- A live block's words in a heap's region.
use Rattle.std.proofs.Common.{◌≡◌, ℕ, ℤ, pos, ◌+◌, ◌<◌, ◌≤◌, ◌^◌, List, length, get_or, sym, ap, subst, ◌∙◌, arith}
use mir.Syntax.{w64}
use Rattle.std.specs.Int.{cast_signed, cast_unsigned}
use Rattle.std.proofs.lemmas.Int.{of_z-to_z}
use Rattle.f3_heap_laws.specs.Account.{r}
use Rattle.f3_live_blocks.specs.Blocks.{Heap, IsLive, words_of, pins_of}
use Rattle.f3_heap_laws.specs.Segments.{segments, live_segments, UsedAt, IsHeap}
use Rattle.f3_heap_laws.proofs.Segs.{r-above}
use Rattle.f3_heap_laws.proofs.BlockReads.{end-within, used-head, used-pins, used-within, used-valid}
use Rattle.f3_heap_laws.proofs.LiveSegs.{live-at, used-content, used-pin}
use Rattle.f3_heap_laws.proofs.Changing.{content-word}

module _ (ws : List ℤ) (room size first end used : ℕ) (h : IsHeap ws room size first end used) (heap : Heap) (view : ◌≡◌ {A = Heap} (record { blocks = live_segments (segments ws end); size = size }) heap)
    (at b : ℕ) (is : at + 1 ≡ b) (live : IsLive heap.blocks b) where
  pub block : UsedAt (segments ws end) at
  block = live-at (segments ws end) at b is (subst (λ (k : Heap). IsLive k.blocks b) (sym view) live)

  pub block-in : at + r (length block.content) ≤ end
  block-in = used-within size (segments ws end) ws first end h.lays block.front block.content block.pins block.back at block.split block.place

  pub words-in : end ≤ length ws
  words-in = end-within size (segments ws end) ws first end h.lays

  pub block-room : at + 3 + length block.content ≤ length ws
  block-room = omega (arith, block-in, words-in, r-above (length block.content))

  pub block-small : at + 3 + length block.content < 2 ^ 60
  block-small = omega (arith, block-in, r-above (length block.content), h.within, h.small)

  pub content-is : words_of heap.blocks b ≡ block.content
  content-is = ap (λ (k : Heap). words_of k.blocks b) (sym view) ∙ used-content (segments ws end) at b is block

  pub pins-is : pins_of heap.blocks b ≡ block.pins
  pins-is = ap (λ (k : Heap). pins_of k.blocks b) (sym view) ∙ used-pin (segments ws end) at b is block

  pub head-is : cast_unsigned w64 (get_or ws at (pos 0)) ≡ length (words_of heap.blocks b)
  head-is = ap (cast_unsigned w64) (used-head size (segments ws end) ws first end h.lays block.front block.content block.pins block.back at block.split block.place) ∙ ap length (sym content-is)

  pub pin-word : get_or ws (at + 1) (pos 0) ≡ cast_signed w64 (pins_of heap.blocks b)
  pin-word = used-pins size (segments ws end) ws first end h.lays block.front block.content block.pins block.back at block.split block.place ∙ ap (cast_signed w64) (sym pins-is)

  pub pins-small : block.pins < 2 ^ 64
  pins-small = used-valid size (segments ws end) ws first end h.lays block.front block.content block.pins block.back at block.split block.place

  pub pin-count : cast_unsigned w64 (get_or ws (at + 1) (pos 0)) ≡ pins_of heap.blocks b
  pin-count = ap (cast_unsigned w64) pin-word ∙ of_z-to_z w64 (pins_of heap.blocks b) (omega (arith, pins-is, pins-small))

  pub word-is : (i : ℕ) → i < length (words_of heap.blocks b) → get_or ws (at + 2 + i) (pos 0) ≡ get_or (words_of heap.blocks b) i (pos 0)
  word-is i lt = content-word size (segments ws end) ws first end at h.lays block i (omega (arith, ap length content-is)) ∙ ap (λ l. get_or l i (pos 0)) (sym content-is)

  pub word-in : (i : ℕ) → i < length (words_of heap.blocks b) → at + 2 + i < length ws
  word-in i lt = omega (arith, block-room, ap length content-is)
