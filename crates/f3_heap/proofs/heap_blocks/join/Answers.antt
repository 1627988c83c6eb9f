-- The block and its free neighbours become one run.
use Rattle.std.proofs.Common.{◌≡◌, ◌+◌, ◌-◌, ◌∙◌, length, ap, refl, arith}
use Rattle.f3_raw.specs.Region.{region_words, region_size}
use Rattle.std.proofs.Common.{w64}
use Rattle.std.specs.Int.{cast_unsigned}
use Rattle.f3_heap_laws.specs.Account.{r}
use Rattle.f3_heap_laws.specs.Segments.{segments, live_segments, with_next, with_prev}
use Rattle.f3_heap_laws.proofs.HintHeaps.{hints-at, close-hints, free-hints}
use Rattle.f3_heap_laws.proofs.Segs.{r-above}
use Rattle.f3_heap_laws.proofs.EndBlock.{used-above}
use Rattle.f3_heap_laws.proofs.BlockReads.{used-within, used-head}
use Rattle.f3_heap_laws.proofs.Puts.{length-freed, length-with_next}
use Rattle.f3_heap_laws.proofs.HeapLaws.{free-heap, free-live, close-heap, close-live}
use Rattle.f3_heap_laws.proofs.BlockLaws.{heap-at, heap-words, around-end, around-four, prev-in, next-in, prev-small, next-small, around-head}
use Rattle.f3_heap.proofs.Sizes.{given_is}
use Rattle.f3_heap.proofs.heap_blocks.join.Goals as goal
use Rattle.f3_heap.proofs.heap_blocks.join.Goals.{After-run_around-run}

-- the size of the block is that of the run's
size_is : (c : After-run_around-run) → c.size_of_block-freed.result ≡ r (length c.run_around-run.ensures.content)
size_is c = c.size_of_block-freed.ensures ∙ ap r (c.link.ensures ∙ around-head (region_words c.args.region.now) (region_size c.args.region.now) c.args.book.now.size c.args.book.now.first c.args.book.now.end c.args.book.now.used c.requires.arena.heap c.args.at c.run_around-run.result.at c.run_around-run.result.size c.run_around-run.result.prev c.run_around-run.result.next c.run_around-run.ensures)

pub link-requires : goal.link-requires
link-requires c = let u = c.requires.block in omega (arith, heap-words (region_words c.args.region.now) (region_size c.args.region.now) c.args.book.now.size c.args.book.now.first c.args.book.now.end c.args.book.now.used c.requires.arena.heap, r-above (length u.content), used-within c.args.book.now.size (segments (region_words c.args.region.now) c.args.book.now.end) (region_words c.args.region.now) c.args.book.now.first c.args.book.now.end c.requires.arena.heap.lays u.front u.content u.pins u.back c.args.at u.split u.place)

pub size_of_block-freed-requires : goal.size_of_block-freed-requires
size_of_block-freed-requires c =
    let u = c.requires.block in
    let w = used-within c.args.book.now.size (segments (region_words c.args.region.now) c.args.book.now.end) (region_words c.args.region.now) c.args.book.now.first c.args.book.now.end c.requires.arena.heap.lays u.front u.content u.pins u.back c.args.at u.split u.place in
    let e = c.link.ensures ∙ ap (cast_unsigned w64) (used-head c.args.book.now.size (segments (region_words c.args.region.now) c.args.book.now.end) (region_words c.args.region.now) c.args.book.now.first c.args.book.now.end c.requires.arena.heap.lays u.front u.content u.pins u.back c.args.at u.split u.place) in
    omega (arith, w, ap r e, c.requires.arena.heap.within, c.requires.arena.heap.small)

pub overflow_sub-book : goal.overflow_sub-book
overflow_sub-book c = omega (arith, given_is (region_words c.args.region.now) c.args.book.now.size c.args.book.now.first c.args.book.now.end c.args.at c.requires.arena.heap.lays c.requires.block c.size_of_block-freed.result c.link.result c.size_of_block-freed.ensures c.link.ensures, used-above (region_words c.args.region.now) (region_size c.args.region.now) c.args.book.now.size c.args.book.now.first c.args.book.now.end c.args.book.now.used c.args.at c.requires.arena.heap c.requires.block)

pub overflow_add-run : goal.overflow_add-run
overflow_add-run c = let w = around-end (region_words c.args.region.now) (region_size c.args.region.now) c.args.book.now.size c.args.book.now.first c.args.book.now.end c.args.book.now.used c.requires.arena.heap c.args.at c.run_around-run.result.at c.run_around-run.result.size c.run_around-run.result.prev c.run_around-run.result.next c.run_around-run.ensures in record { fits = omega (arith, w, c.requires.arena.heap.within, c.requires.arena.heap.small) }

pub link_next-requires-clause-within : goal.link_next-requires-clause-within
link_next-requires-clause-within c = λ ne. omega (arith, prev-in (region_words c.args.region.now) (region_size c.args.region.now) c.args.book.now.size c.args.book.now.first c.args.book.now.end c.args.book.now.used c.requires.arena.heap c.args.at c.run_around-run.result.at c.run_around-run.result.size c.run_around-run.result.prev c.run_around-run.result.next c.run_around-run.ensures ne)

pub write_free-requires-clause-within : goal.write_free-requires-clause-within
write_free-requires-clause-within c = omega (arith, around-end (region_words c.args.region.now) (region_size c.args.region.now) c.args.book.now.size c.args.book.now.first c.args.book.now.end c.args.book.now.used c.requires.arena.heap c.args.at c.run_around-run.result.at c.run_around-run.result.size c.run_around-run.result.prev c.run_around-run.result.next c.run_around-run.ensures, heap-words (region_words c.args.region.now) (region_size c.args.region.now) c.args.book.now.size c.args.book.now.first c.args.book.now.end c.args.book.now.used c.requires.arena.heap)

pub write_free-requires-clause-sized : goal.write_free-requires-clause-sized
write_free-requires-clause-sized c = (around-four (region_words c.args.region.now) (region_size c.args.region.now) c.args.book.now.size c.args.book.now.first c.args.book.now.end c.args.book.now.used c.requires.arena.heap c.args.at c.run_around-run.result.at c.run_around-run.result.size c.run_around-run.result.prev c.run_around-run.result.next c.run_around-run.ensures, omega (arith, around-end (region_words c.args.region.now) (region_size c.args.region.now) c.args.book.now.size c.args.book.now.first c.args.book.now.end c.args.book.now.used c.requires.arena.heap c.args.at c.run_around-run.result.at c.run_around-run.result.size c.run_around-run.result.prev c.run_around-run.result.next c.run_around-run.ensures, c.requires.arena.heap.within, c.requires.arena.heap.small))

pub write_free-requires-clause-small : goal.write_free-requires-clause-small
write_free-requires-clause-small c = (next-small (region_words c.args.region.now) (region_size c.args.region.now) c.args.book.now.size c.args.book.now.first c.args.book.now.end c.args.book.now.used c.requires.arena.heap c.args.at c.run_around-run.result.at c.run_around-run.result.size c.run_around-run.result.prev c.run_around-run.result.next c.run_around-run.ensures, prev-small (region_words c.args.region.now) (region_size c.args.region.now) c.args.book.now.size c.args.book.now.first c.args.book.now.end c.args.book.now.used c.requires.arena.heap c.args.at c.run_around-run.result.at c.run_around-run.result.size c.run_around-run.result.prev c.run_around-run.result.next c.run_around-run.ensures)

pub link_next-requires-else-run-book-clause-within : goal.link_next-requires-else-run-book-clause-within
link_next-requires-else-run-book-clause-within c = λ ne. omega (arith, prev-in (region_words c.args.region.now) (region_size c.args.region.now) c.args.book.now.size c.args.book.now.first c.args.book.now.end c.args.book.now.used c.requires.arena.heap c.args.at c.run_around-run.result.at c.run_around-run.result.size c.run_around-run.result.prev c.run_around-run.result.next c.run_around-run.ensures ne, ap length c.write_free.ensures.words, length-freed (region_words c.args.region.now) c.run_around-run.result.at c.run_around-run.result.size c.run_around-run.result.next c.run_around-run.result.prev)

pub link_next-requires-else-run-book-clause-small : goal.link_next-requires-else-run-book-clause-small
link_next-requires-else-run-book-clause-small c = omega (arith, around-end (region_words c.args.region.now) (region_size c.args.region.now) c.args.book.now.size c.args.book.now.first c.args.book.now.end c.args.book.now.used c.requires.arena.heap c.args.at c.run_around-run.result.at c.run_around-run.result.size c.run_around-run.result.prev c.run_around-run.result.next c.run_around-run.ensures, c.requires.arena.heap.within, c.requires.arena.heap.small)

pub link_prev-requires-clause-within : goal.link_prev-requires-clause-within
link_prev-requires-clause-within c = λ ne. omega (arith, next-in (region_words c.args.region.now) (region_size c.args.region.now) c.args.book.now.size c.args.book.now.first c.args.book.now.end c.args.book.now.used c.requires.arena.heap c.args.at c.run_around-run.result.at c.run_around-run.result.size c.run_around-run.result.prev c.run_around-run.result.next c.run_around-run.ensures ne, ap length c.link_next-else-run-book.ensures.words, length-with_next (region_words c.write_free.new.region) c.args.book.now.size c.run_around-run.result.prev c.run_around-run.result.at, ap length c.write_free.ensures.words, length-freed (region_words c.args.region.now) c.run_around-run.result.at c.run_around-run.result.size c.run_around-run.result.next c.run_around-run.result.prev)

pub link_prev-requires-clause-small : goal.link_prev-requires-clause-small
link_prev-requires-clause-small c = omega (arith, around-end (region_words c.args.region.now) (region_size c.args.region.now) c.args.book.now.size c.args.book.now.first c.args.book.now.end c.args.book.now.used c.requires.arena.heap c.args.at c.run_around-run.result.at c.run_around-run.result.size c.run_around-run.result.prev c.run_around-run.result.next c.run_around-run.ensures, c.requires.arena.heap.within, c.requires.arena.heap.small)

pub returns-then-run-book-clause-arena : goal.returns-then-run-book-clause-arena
returns-then-run-book-clause-arena c =
    record {
      heap = heap-at _ _ _ _ c.args.book.now.size _ _ _ _ _ _ (close-heap (region_words c.args.region.now) (region_size c.args.region.now) c.args.book.now.size c.args.book.now.first c.args.book.now.end c.args.book.now.used c.args.at c.run_around-run.result.at c.run_around-run.result.size c.run_around-run.result.prev c.run_around-run.result.next c.requires.arena.heap c.run_around-run.ensures c.if-run-book.true)
          c.link_next.ensures.words c.link_next.ensures.size c.link_next.ensures.first refl (ap (λ n. c.args.book.now.used - n) (size_is (goal.at.returns-then-run-book-clause-arena c).After-run_around-run));
      hints = hints-at _ _ c.args.book.now.size _ _ c.move_hints.new.hints (close-hints (region_words c.args.region.now) (region_size c.args.region.now) c.args.book.now.size c.args.book.now.first c.args.book.now.end c.args.book.now.used c.requires.arena.heap c.args.book.now.hints c.requires.arena.hints c.args.at c.run_around-run.result.at c.run_around-run.result.size c.run_around-run.result.prev c.run_around-run.result.next c.run_around-run.ensures c.move_hints.new.hints c.if-run-book.true c.move_hints.ensures.moved) c.link_next.ensures.words refl;
      room = c.link_next.ensures.size ∙ c.requires.arena.room;
    }

pub returns-then-run-book-clause-given : goal.returns-then-run-book-clause-given
returns-then-run-book-clause-given c =
    ap (λ z. live_segments (segments z c.run_around-run.result.at)) c.link_next.ensures.words ∙ close-live (region_words c.args.region.now) (region_size c.args.region.now) c.args.book.now.size c.args.book.now.first c.args.book.now.end c.args.book.now.used c.args.at c.run_around-run.result.at c.run_around-run.result.size c.run_around-run.result.prev c.run_around-run.result.next c.requires.arena.heap c.run_around-run.ensures c.if-run-book.true (c.args.at + 1) refl

pub returns-else-run-book-clause-arena : goal.returns-else-run-book-clause-arena
returns-else-run-book-clause-arena c =
    record {
      heap = heap-at _ _ _ _ c.args.book.now.size _ _ _ _ _ _ (free-heap (region_words c.args.region.now) (region_size c.args.region.now) c.args.book.now.size c.args.book.now.first c.args.book.now.end c.args.book.now.used c.args.at c.run_around-run.result.at c.run_around-run.result.size c.run_around-run.result.prev c.run_around-run.result.next c.requires.arena.heap c.run_around-run.ensures c.if-run-book.false)
          (c.link_prev.ensures.words ∙ ap (λ z. with_prev z c.args.book.now.size c.run_around-run.result.next c.run_around-run.result.at) (c.link_next-else-run-book.ensures.words ∙ ap (λ z. with_next z c.args.book.now.size c.run_around-run.result.prev c.run_around-run.result.at) c.write_free.ensures.words)) (c.link_prev.ensures.size ∙ c.link_next-else-run-book.ensures.size ∙ c.write_free.ensures.size) c.link_next-else-run-book.ensures.first refl (ap (λ n. c.args.book.now.used - n) (size_is (goal.at.returns-else-run-book-clause-arena c).After-run_around-run));
      hints = hints-at _ _ c.args.book.now.size _ _ c.lower_hints.new.hints (free-hints (region_words c.args.region.now) (region_size c.args.region.now) c.args.book.now.size c.args.book.now.first c.args.book.now.end c.args.book.now.used c.requires.arena.heap c.args.book.now.hints c.requires.arena.hints c.args.at c.run_around-run.result.at c.run_around-run.result.size c.run_around-run.result.prev c.run_around-run.result.next c.run_around-run.ensures c.lower_hints.new.hints c.if-run-book.false c.lower_hints.ensures.lowered) (c.link_prev.ensures.words ∙ ap (λ z. with_prev z c.args.book.now.size c.run_around-run.result.next c.run_around-run.result.at) (c.link_next-else-run-book.ensures.words ∙ ap (λ z. with_next z c.args.book.now.size c.run_around-run.result.prev c.run_around-run.result.at) c.write_free.ensures.words)) refl;
      room = c.link_prev.ensures.size ∙ c.link_next-else-run-book.ensures.size ∙ c.write_free.ensures.size ∙ c.requires.arena.room;
    }

pub returns-else-run-book-clause-given : goal.returns-else-run-book-clause-given
returns-else-run-book-clause-given c =
    ap (λ z. live_segments (segments z c.args.book.now.end)) (c.link_prev.ensures.words ∙ ap (λ z. with_prev z c.args.book.now.size c.run_around-run.result.next c.run_around-run.result.at) (c.link_next-else-run-book.ensures.words ∙ ap (λ z. with_next z c.args.book.now.size c.run_around-run.result.prev c.run_around-run.result.at) c.write_free.ensures.words)) ∙ free-live (region_words c.args.region.now) (region_size c.args.region.now) c.args.book.now.size c.args.book.now.first c.args.book.now.end c.args.book.now.used c.args.at c.run_around-run.result.at c.run_around-run.result.size c.run_around-run.result.prev c.run_around-run.result.next c.requires.arena.heap c.run_around-run.ensures c.if-run-book.false (c.args.at + 1) refl

pub lower_hints-requires : goal.lower_hints-requires
lower_hints-requires c = omega (arith, around-end (region_words c.args.region.now) (region_size c.args.region.now) c.args.book.now.size c.args.book.now.first c.args.book.now.end c.args.book.now.used c.requires.arena.heap c.args.at c.run_around-run.result.at c.run_around-run.result.size c.run_around-run.result.prev c.run_around-run.result.next c.run_around-run.ensures, c.requires.arena.heap.within, c.requires.arena.heap.small)
