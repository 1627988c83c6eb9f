-- Two contents are lent.
use Rattle.std.proofs.Common.{◌+◌, ◌∙◌, length, ap, sym, refl, arith}
use Rattle.f3_raw.specs.Region.{region_words, region_size}
use Rattle.f3_live_blocks.specs.Blocks.{Heap, words_of}
use Rattle.f3_heap_laws.specs.Segments.{segments}
use Rattle.f3_heap_laws.proofs.RawReads.{block, block-room, content-is}
use Rattle.f3_heap_laws.proofs.RawWrites.{pair-heap, pair-hints, pair-view, content-run, blocks-apart}
use Rattle.f3_heap.proofs.raw.RawHeapBlocks.pair.Goals as goal

pub pair-requires-clause-first : goal.pair-requires-clause-first
pair-requires-clause-first c = omega (arith, block-room (region_words c.self.inside.arena.region) (region_size c.self.inside.arena.region) c.self.inside.arena.book.value.size c.self.inside.arena.book.value.first c.self.inside.arena.book.value.end c.self.inside.arena.book.value.used c.self.invariant.heap c.args.self.now c.self.view_is c.place.result c.args.from c.place.ensures c.requires.from_live, (c.length-n.ensures ∙ ap (λ (h : Heap). length (words_of h.blocks c.args.from)) c.self.view_is), ap length (content-is (region_words c.self.inside.arena.region) (region_size c.self.inside.arena.region) c.self.inside.arena.book.value.size c.self.inside.arena.book.value.first c.self.inside.arena.book.value.end c.self.inside.arena.book.value.used c.self.invariant.heap c.args.self.now c.self.view_is c.place.result c.args.from c.place.ensures c.requires.from_live))

pub pair-requires-clause-second : goal.pair-requires-clause-second
pair-requires-clause-second c = omega (arith, block-room (region_words c.self.inside.arena.region) (region_size c.self.inside.arena.region) c.self.inside.arena.book.value.size c.self.inside.arena.book.value.first c.self.inside.arena.book.value.end c.self.inside.arena.book.value.used c.self.invariant.heap c.args.self.now c.self.view_is c.place-2.result c.args.to c.place-2.ensures c.requires.to_live, (c.length-m.ensures ∙ ap (λ (h : Heap). length (words_of h.blocks c.args.to)) c.self.view_is), ap length (content-is (region_words c.self.inside.arena.region) (region_size c.self.inside.arena.region) c.self.inside.arena.book.value.size c.self.inside.arena.book.value.first c.self.inside.arena.book.value.end c.self.inside.arena.book.value.used c.self.invariant.heap c.args.self.now c.self.view_is c.place-2.result c.args.to c.place-2.ensures c.requires.to_live))

pub pair-requires-clause-apart : goal.pair-requires-clause-apart
pair-requires-clause-apart c = blocks-apart (segments (region_words c.self.inside.arena.region) c.self.inside.arena.book.value.end) c.place.result c.place-2.result c.length-n.result c.length-m.result (block (region_words c.self.inside.arena.region) (region_size c.self.inside.arena.region) c.self.inside.arena.book.value.size c.self.inside.arena.book.value.first c.self.inside.arena.book.value.end c.self.inside.arena.book.value.used c.self.invariant.heap c.args.self.now c.self.view_is c.place.result c.args.from c.place.ensures c.requires.from_live) (block (region_words c.self.inside.arena.region) (region_size c.self.inside.arena.region) c.self.inside.arena.book.value.size c.self.inside.arena.book.value.first c.self.inside.arena.book.value.end c.self.inside.arena.book.value.used c.self.invariant.heap c.args.self.now c.self.view_is c.place-2.result c.args.to c.place-2.ensures c.requires.to_live) (λ e. c.requires.different (sym c.place.ensures ∙ ap (λ n. n + 1) e ∙ c.place-2.ensures)) ((c.length-n.ensures ∙ ap (λ (h : Heap). length (words_of h.blocks c.args.from)) c.self.view_is) ∙ ap length (content-is (region_words c.self.inside.arena.region) (region_size c.self.inside.arena.region) c.self.inside.arena.book.value.size c.self.inside.arena.book.value.first c.self.inside.arena.book.value.end c.self.inside.arena.book.value.used c.self.invariant.heap c.args.self.now c.self.view_is c.place.result c.args.from c.place.ensures c.requires.from_live)) ((c.length-m.ensures ∙ ap (λ (h : Heap). length (words_of h.blocks c.args.to)) c.self.view_is) ∙ ap length (content-is (region_words c.self.inside.arena.region) (region_size c.self.inside.arena.region) c.self.inside.arena.book.value.size c.self.inside.arena.book.value.first c.self.inside.arena.book.value.end c.self.inside.arena.book.value.used c.self.invariant.heap c.args.self.now c.self.view_is c.place-2.result c.args.to c.place-2.ensures c.requires.to_live))

pub invariant_of-self-lent : goal.invariant_of-self-lent
invariant_of-self-lent c = λ w. record {
  heap = pair-heap (region_words c.self.inside.arena.region) (region_size c.self.inside.arena.region) c.self.inside.arena.book.value.size c.self.inside.arena.book.value.first c.self.inside.arena.book.value.end c.self.inside.arena.book.value.used c.self.invariant.heap c.args.self.now c.self.view_is c.place-2.result c.args.to c.place-2.ensures c.requires.to_live c.length-m.result w (c.length-m.ensures ∙ ap (λ (h : Heap). length (words_of h.blocks c.args.to)) c.self.view_is);
  hints = pair-hints (region_words c.self.inside.arena.region) (region_size c.self.inside.arena.region) c.self.inside.arena.book.value.size c.self.inside.arena.book.value.first c.self.inside.arena.book.value.end c.self.inside.arena.book.value.used c.self.invariant.heap c.args.self.now c.self.view_is c.place-2.result c.args.to c.place-2.ensures c.requires.to_live c.length-m.result w (c.length-m.ensures ∙ ap (λ (h : Heap). length (words_of h.blocks c.args.to)) c.self.view_is) c.self.inside.arena.book.value.hints c.self.invariant.hints;
  room = c.self.invariant.room;
}

pub returns : goal.returns
returns c = (
  (refl, λ w i. record { blocks = pair-view (region_words c.self.inside.arena.region) (region_size c.self.inside.arena.region) c.self.inside.arena.book.value.size c.self.inside.arena.book.value.first c.self.inside.arena.book.value.end c.self.inside.arena.book.value.used c.self.invariant.heap c.args.self.now c.self.view_is c.place-2.result c.args.to c.place-2.ensures c.requires.to_live c.length-m.result w (c.length-m.ensures ∙ ap (λ (h : Heap). length (words_of h.blocks c.args.to)) c.self.view_is) i; size = ap (λ (h : Heap). h.size) c.self.view_is i }),
  record {
    writes_back = tt;
    source = c.pair.ensures.first ∙ content-run (region_words c.self.inside.arena.region) (region_size c.self.inside.arena.region) c.self.inside.arena.book.value.size c.self.inside.arena.book.value.first c.self.inside.arena.book.value.end c.self.inside.arena.book.value.used c.self.invariant.heap c.args.self.now c.self.view_is c.place.result c.args.from c.place.ensures c.requires.from_live c.length-n.result (c.length-n.ensures ∙ ap (λ (h : Heap). length (words_of h.blocks c.args.from)) c.self.view_is);
    target = c.pair.ensures.second ∙ content-run (region_words c.self.inside.arena.region) (region_size c.self.inside.arena.region) c.self.inside.arena.book.value.size c.self.inside.arena.book.value.first c.self.inside.arena.book.value.end c.self.inside.arena.book.value.used c.self.invariant.heap c.args.self.now c.self.view_is c.place-2.result c.args.to c.place-2.ensures c.requires.to_live c.length-m.result (c.length-m.ensures ∙ ap (λ (h : Heap). length (words_of h.blocks c.args.to)) c.self.view_is);
  },
)
