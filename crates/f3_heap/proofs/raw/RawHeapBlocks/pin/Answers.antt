-- A live block in the region.
use Rattle.std.proofs.Common.{◌≡◌, ◌<◌, ◌+◌, ◌∙◌, ◌^◌, ap, refl, arith}
use Rattle.f3_raw.specs.Region.{region_words, region_size}
use Rattle.f3_heap_laws.proofs.RawReads.{block-room, block-small, pin-count}
use Rattle.f3_heap.proofs.raw.RawHeapBlocks.pin.Goals as goal
use Rattle.f3_heap.proofs.raw.RawHeapBlocks.pin.Goals.{After-put_pin_count}
use Rattle.f3_live_blocks.specs.Blocks.{pins_of, with_pins}
use Rattle.f3_heap_laws.specs.Segments.{segments, live_segments}
use Rattle.f3_heap_laws.proofs.BlockLaws.{heap-at}
use Rattle.f3_heap_laws.proofs.HintHeaps.{hints-at}
use Rattle.f3_heap_laws.proofs.RawWrites.{pin-heap, pin-hints, pin-view}

pub overflow_add-place : goal.overflow_add-place
overflow_add-place c = let w = block-small (region_words c.self.inside.arena.region) (region_size c.self.inside.arena.region) c.self.inside.arena.book.value.size c.self.inside.arena.book.value.first c.self.inside.arena.book.value.end c.self.inside.arena.book.value.used c.self.invariant.heap c.args.self.now c.self.view_is c.place.result c.args.block c.place.ensures c.requires.live in record { fits = omega (arith, w) }

pub pin_count-count-requires : goal.pin_count-count-requires
pin_count-count-requires c = omega (arith, block-room (region_words c.self.inside.arena.region) (region_size c.self.inside.arena.region) c.self.inside.arena.book.value.size c.self.inside.arena.book.value.first c.self.inside.arena.book.value.end c.self.inside.arena.book.value.used c.self.invariant.heap c.args.self.now c.self.view_is c.place.result c.args.block c.place.ensures c.requires.live)

pub overflow_add-count : goal.overflow_add-count
overflow_add-count c = let n = c.pin_count-count.ensures ∙ pin-count (region_words c.self.inside.arena.region) (region_size c.self.inside.arena.region) c.self.inside.arena.book.value.size c.self.inside.arena.book.value.first c.self.inside.arena.book.value.end c.self.inside.arena.book.value.used c.self.invariant.heap c.args.self.now c.self.view_is c.place.result c.args.block c.place.ensures c.requires.live in record { fits = omega (arith, n, c.requires.below) }

pub put_pin_count-requires : goal.put_pin_count-requires
put_pin_count-requires c = omega (arith, block-room (region_words c.self.inside.arena.region) (region_size c.self.inside.arena.region) c.self.inside.arena.book.value.size c.self.inside.arena.book.value.first c.self.inside.arena.book.value.end c.self.inside.arena.book.value.used c.self.invariant.heap c.args.self.now c.self.view_is c.place-2.result c.args.block c.place-2.ensures c.requires.live)

count : (c : After-put_pin_count) → c.pin_count-count.result + 1 ≡ pins_of c.args.self.now.blocks c.args.block + 1
count c = ap (λ n. n + 1) (c.pin_count-count.ensures ∙ pin-count (region_words c.self.inside.arena.region) (region_size c.self.inside.arena.region) c.self.inside.arena.book.value.size c.self.inside.arena.book.value.first c.self.inside.arena.book.value.end c.self.inside.arena.book.value.used c.self.invariant.heap c.args.self.now c.self.view_is c.place.result c.args.block c.place.ensures c.requires.live)

fits_count : (c : After-put_pin_count) → c.pin_count-count.result + 1 < 2 ^ 64
fits_count c = let n = c.pin_count-count.ensures ∙ pin-count (region_words c.self.inside.arena.region) (region_size c.self.inside.arena.region) c.self.inside.arena.book.value.size c.self.inside.arena.book.value.first c.self.inside.arena.book.value.end c.self.inside.arena.book.value.used c.self.invariant.heap c.args.self.now c.self.view_is c.place.result c.args.block c.place.ensures c.requires.live in omega (arith, n, c.requires.below)

pub invariant_of-self : goal.invariant_of-self
invariant_of-self c = record {
  heap = heap-at _ _ _ _ c.self.inside.arena.book.value.size _ _ _ _ _ _ (pin-heap (region_words c.self.inside.arena.region) (region_size c.self.inside.arena.region) c.self.inside.arena.book.value.size c.self.inside.arena.book.value.first c.self.inside.arena.book.value.end c.self.inside.arena.book.value.used c.self.invariant.heap c.args.self.now c.self.view_is c.place-2.result c.args.block c.place-2.ensures c.requires.live (c.pin_count-count.result + 1) (fits_count c) _ refl) c.put_pin_count.ensures.words c.put_pin_count.ensures.size refl refl refl;
  hints = hints-at _ _ c.self.inside.arena.book.value.size _ _ c.self.inside.arena.book.value.hints (pin-hints (region_words c.self.inside.arena.region) (region_size c.self.inside.arena.region) c.self.inside.arena.book.value.size c.self.inside.arena.book.value.first c.self.inside.arena.book.value.end c.self.inside.arena.book.value.used c.self.invariant.heap c.args.self.now c.self.view_is c.place-2.result c.args.block c.place-2.ensures c.requires.live (c.pin_count-count.result + 1) (fits_count c) _ refl c.self.inside.arena.book.value.hints c.self.invariant.hints) c.put_pin_count.ensures.words refl;
  room = c.put_pin_count.ensures.size ∙ c.self.invariant.room;
}

pub returns-clause-counted : goal.returns-clause-counted
returns-clause-counted c =
    ap (λ z. live_segments (segments z c.self.inside.arena.book.value.end)) c.put_pin_count.ensures.words ∙ pin-view (region_words c.self.inside.arena.region) (region_size c.self.inside.arena.region) c.self.inside.arena.book.value.size c.self.inside.arena.book.value.first c.self.inside.arena.book.value.end c.self.inside.arena.book.value.used c.self.invariant.heap c.args.self.now c.self.view_is c.place-2.result c.args.block c.place-2.ensures c.requires.live (c.pin_count-count.result + 1) (fits_count c) _ refl
    ∙ ap (with_pins c.args.self.now.blocks c.args.block) (count c)

pub overflow_add-place-2 : goal.overflow_add-place-2
overflow_add-place-2 c = let w = block-small (region_words c.self.inside.arena.region) (region_size c.self.inside.arena.region) c.self.inside.arena.book.value.size c.self.inside.arena.book.value.first c.self.inside.arena.book.value.end c.self.inside.arena.book.value.used c.self.invariant.heap c.args.self.now c.self.view_is c.place-2.result c.args.block c.place-2.ensures c.requires.live in record { fits = omega (arith, w) }
