-- The last block is given, where it has no pins.
use Rattle.std.proofs.Common.{◌∙◌, sym, subst, arith}
use Rattle.f3_raw.specs.Region.{region_words, region_size}
use Rattle.f3_heap_laws.proofs.RawReads.{block, block-room, pin-count}
use Rattle.f3_heap_laws.specs.Segments.{UsedAt}
use Rattle.f3_heap.specs.declared.arena.Book.{Book}
use Rattle.f3_heap.specs.Arena.{segments_in}
use Rattle.f3_heap.proofs.raw.RawHeapBlocks.give_at_once.Goals as goal

pub pin_count-requires : goal.pin_count-requires
pin_count-requires c = omega (arith, block-room (region_words c.self.inside.arena.region) (region_size c.self.inside.arena.region) c.self.inside.arena.book.value.size c.self.inside.arena.book.value.first c.self.inside.arena.book.value.end c.self.inside.arena.book.value.used c.self.invariant.heap c.args.self.now c.self.view_is c.place-at.result c.args.block c.place-at.ensures c.requires)

pub give_last-requires-clause-block : goal.give_last-requires-clause-block
give_last-requires-clause-block c = subst (λ (b : Book). UsedAt (segments_in c.self.inside.arena.region b) c.place-at.result) (sym c.deref_mut.ensures.value) (block (region_words c.self.inside.arena.region) (region_size c.self.inside.arena.region) c.self.inside.arena.book.value.size c.self.inside.arena.book.value.first c.self.inside.arena.book.value.end c.self.inside.arena.book.value.used c.self.invariant.heap c.args.self.now c.self.view_is c.place-at.result c.args.block c.place-at.ensures c.requires)

pub returns-clause-unpinned : goal.returns-clause-unpinned
returns-clause-unpinned c =
    let n = c.pin_count.ensures ∙ pin-count (region_words c.self.inside.arena.region) (region_size c.self.inside.arena.region) c.self.inside.arena.book.value.size c.self.inside.arena.book.value.first c.self.inside.arena.book.value.end c.self.inside.arena.book.value.used c.self.invariant.heap c.args.self.now c.self.view_is c.place-at.result c.args.block c.place-at.ensures c.requires in
    λ e. sym n ∙ c.if-pin_count-ne0.false
