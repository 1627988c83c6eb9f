-- A live block in the region.
use Rattle.std.proofs.Common.{◌∙◌, arith, rules, w64}
use Rattle.f3_raw.specs.Region.{region_words, region_size}
use mir.Val.{SFits}
use Rattle.std.proofs.lemmas.Int.{to_z-of_z}
use Rattle.f3_heap_laws.proofs.RawReads.{block-small, word-in, word-is}
use Rattle.f3_heap.proofs.raw.RawHeapBlocks.read.Goals as goal

pub overflow_add-place : goal.overflow_add-place
overflow_add-place c = let w = block-small (region_words c.self.inside.arena.region) (region_size c.self.inside.arena.region) c.self.inside.arena.book.value.size c.self.inside.arena.book.value.first c.self.inside.arena.book.value.end c.self.inside.arena.book.value.used c.self.invariant.heap c.args.self.now c.self.view_is c.place.result c.args.block c.place.ensures c.requires.live in record { fits = omega (arith, w) }

pub get_from-requires : goal.get_from-requires
get_from-requires c = word-in (region_words c.self.inside.arena.region) (region_size c.self.inside.arena.region) c.self.inside.arena.book.value.size c.self.inside.arena.book.value.first c.self.inside.arena.book.value.end c.self.inside.arena.book.value.used c.self.invariant.heap c.args.self.now c.self.view_is c.place.result c.args.block c.place.ensures c.requires.live c.args.at c.requires.within

pub returns : goal.returns
returns c = let f : SFits w64 c.get_from.result = search rules in rw to_z-of_z (c.get_from.ensures ∙ word-is (region_words c.self.inside.arena.region) (region_size c.self.inside.arena.region) c.self.inside.arena.book.value.size c.self.inside.arena.book.value.first c.self.inside.arena.book.value.end c.self.inside.arena.book.value.used c.self.invariant.heap c.args.self.now c.self.view_is c.place.result c.args.block c.place.ensures c.requires.live c.args.at c.requires.within)
