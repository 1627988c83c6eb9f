-- A block lies within the region.
use Rattle.f3_raw.specs.Region.{region_words, region_size}
use Rattle.f3_heap.proofs.Short.{region_short}
use Rattle.f3_heap.proofs.raw.RawHeapBlocks.blocks_are_short.Goals as goal

pub returns : goal.returns
returns c = region_short (region_words c.self.inside.arena.region) (region_size c.self.inside.arena.region) c.self.inside.arena.book.value.size c.self.inside.arena.book.value.first c.self.inside.arena.book.value.end c.self.inside.arena.book.value.used c.self.invariant.heap c.args.self.now c.self.view_is
