-- A live block in the region.
use Rattle.std.proofs.Common.{◌∙◌, arith}
use Rattle.f3_raw.specs.Region.{region_words, region_size}
use Rattle.f3_heap_laws.proofs.RawReads.{block-room, block-small, pin-count}
use Rattle.f3_heap.proofs.raw.RawHeapBlocks.pins.Goals as goal

pub overflow_add-place : goal.overflow_add-place
overflow_add-place c = let w = block-small (region_words c.self.inside.arena.region) (region_size c.self.inside.arena.region) c.self.inside.arena.book.value.size c.self.inside.arena.book.value.first c.self.inside.arena.book.value.end c.self.inside.arena.book.value.used c.self.invariant.heap c.args.self.now c.self.view_is c.place.result c.args.block c.place.ensures c.requires in record { fits = omega (arith, w) }

pub pin_count-requires : goal.pin_count-requires
pin_count-requires c = omega (arith, block-room (region_words c.self.inside.arena.region) (region_size c.self.inside.arena.region) c.self.inside.arena.book.value.size c.self.inside.arena.book.value.first c.self.inside.arena.book.value.end c.self.inside.arena.book.value.used c.self.invariant.heap c.args.self.now c.self.view_is c.place.result c.args.block c.place.ensures c.requires)

pub returns : goal.returns
returns c = c.pin_count.ensures ∙ pin-count (region_words c.self.inside.arena.region) (region_size c.self.inside.arena.region) c.self.inside.arena.book.value.size c.self.inside.arena.book.value.first c.self.inside.arena.book.value.end c.self.inside.arena.book.value.used c.self.invariant.heap c.args.self.now c.self.view_is c.place.result c.args.block c.place.ensures c.requires
