-- A live block in the region.
use Rattle.std.proofs.Common.{◌≡◌, ◌+◌, ◌∙◌, set, ap, refl, arith, w64}
use Rattle.f3_raw.specs.Region.{region_words, region_size}
use Rattle.f3_heap_laws.proofs.RawReads.{block-small, word-in}
use Rattle.f3_heap.proofs.raw.RawHeapBlocks.write.Goals as goal
use Rattle.f3_heap.proofs.raw.RawHeapBlocks.write.Goals.{After-put_from}
use mir.Val.{SFits}
use Rattle.std.proofs.lemmas.Int.{to_z-of_z}
use Rattle.f3_heap_laws.specs.Segments.{segments, live_segments}
use Rattle.f3_heap_laws.proofs.Puts.{put-set}
use Rattle.f3_heap_laws.proofs.BlockLaws.{heap-at}
use Rattle.f3_heap_laws.proofs.HintHeaps.{hints-at}
use Rattle.f3_heap_laws.proofs.RawWrites.{write-heap, write-hints, write-view}

put_word : (c : After-put_from) → region_words c.put_from.new.self ≡ set (region_words c.self.inside.arena.region) (c.place.result + 2 + c.args.at) c.args.value
put_word c =
    let fits : SFits w64 c.args.value = c.ranges.value in
    c.put_from.ensures.words ∙ put-set (region_words c.self.inside.arena.region) (c.place.result + 2 + c.args.at) _ (word-in (region_words c.self.inside.arena.region) (region_size c.self.inside.arena.region) c.self.inside.arena.book.value.size c.self.inside.arena.book.value.first c.self.inside.arena.book.value.end c.self.inside.arena.book.value.used c.self.invariant.heap c.args.self.now c.self.view_is c.place.result c.args.block c.place.ensures c.requires.live c.args.at c.requires.within) ∙ ap (set (region_words c.self.inside.arena.region) (c.place.result + 2 + c.args.at)) (to_z-of_z w64 c.args.value fits)

pub overflow_add-place : goal.overflow_add-place
overflow_add-place c = let w = block-small (region_words c.self.inside.arena.region) (region_size c.self.inside.arena.region) c.self.inside.arena.book.value.size c.self.inside.arena.book.value.first c.self.inside.arena.book.value.end c.self.inside.arena.book.value.used c.self.invariant.heap c.args.self.now c.self.view_is c.place.result c.args.block c.place.ensures c.requires.live in record { fits = omega (arith, w) }

pub put_from-requires : goal.put_from-requires
put_from-requires c = word-in (region_words c.self.inside.arena.region) (region_size c.self.inside.arena.region) c.self.inside.arena.book.value.size c.self.inside.arena.book.value.first c.self.inside.arena.book.value.end c.self.inside.arena.book.value.used c.self.invariant.heap c.args.self.now c.self.view_is c.place.result c.args.block c.place.ensures c.requires.live c.args.at c.requires.within

pub invariant_of-self : goal.invariant_of-self
invariant_of-self c = record {
  heap = let fits : SFits w64 c.args.value = c.ranges.value in
      heap-at _ _ _ _ c.self.inside.arena.book.value.size _ _ _ _ _ _ (write-heap (region_words c.self.inside.arena.region) (region_size c.self.inside.arena.region) c.self.inside.arena.book.value.size c.self.inside.arena.book.value.first c.self.inside.arena.book.value.end c.self.inside.arena.book.value.used c.self.invariant.heap c.args.self.now c.self.view_is c.place.result c.args.block c.place.ensures c.requires.live c.args.at c.args.value c.requires.within _ refl)
      (put_word c) c.put_from.ensures.size refl refl refl;
  hints = hints-at _ _ c.self.inside.arena.book.value.size _ _ c.self.inside.arena.book.value.hints (write-hints (region_words c.self.inside.arena.region) (region_size c.self.inside.arena.region) c.self.inside.arena.book.value.size c.self.inside.arena.book.value.first c.self.inside.arena.book.value.end c.self.inside.arena.book.value.used c.self.invariant.heap c.args.self.now c.self.view_is c.place.result c.args.block c.place.ensures c.requires.live c.args.at c.args.value c.requires.within _ refl c.self.inside.arena.book.value.hints c.self.invariant.hints) (put_word c) refl;
  room = c.put_from.ensures.size ∙ c.self.invariant.room;
}

pub returns-clause-written : goal.returns-clause-written
returns-clause-written c =
    ap (λ z. live_segments (segments z c.self.inside.arena.book.value.end)) (put_word c) ∙ write-view (region_words c.self.inside.arena.region) (region_size c.self.inside.arena.region) c.self.inside.arena.book.value.size c.self.inside.arena.book.value.first c.self.inside.arena.book.value.end c.self.inside.arena.book.value.used c.self.invariant.heap c.args.self.now c.self.view_is c.place.result c.args.block c.place.ensures c.requires.live c.args.at c.args.value c.requires.within _ refl
