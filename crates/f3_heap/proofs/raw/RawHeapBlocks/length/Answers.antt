-- A live block in the region.
use Rattle.std.proofs.Common.{◌∙◌, arith}
use Rattle.f3_raw.specs.Region.{region_words, region_size}
use Rattle.f3_heap_laws.proofs.RawReads.{block-room, head-is}
use Rattle.f3_heap.proofs.raw.RawHeapBlocks.length.Goals as goal

pub link-requires : goal.link-requires
link-requires c = omega (arith, block-room (region_words c.self.inside.arena.region) (region_size c.self.inside.arena.region) c.self.inside.arena.book.value.size c.self.inside.arena.book.value.first c.self.inside.arena.book.value.end c.self.inside.arena.book.value.used c.self.invariant.heap c.args.self.now c.self.view_is c.place.result c.args.block c.place.ensures c.requires)

pub returns : goal.returns
returns c = c.link.ensures ∙ head-is (region_words c.self.inside.arena.region) (region_size c.self.inside.arena.region) c.self.inside.arena.book.value.size c.self.inside.arena.book.value.first c.self.inside.arena.book.value.end c.self.inside.arena.book.value.used c.self.invariant.heap c.args.self.now c.self.view_is c.place.result c.args.block c.place.ensures c.requires
