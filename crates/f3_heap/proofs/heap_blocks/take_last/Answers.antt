-- A small block behind all others.
use Rattle.std.proofs.Common.{◌+◌, ◌∙◌, ℕ, ap, subst, refl, arith}
use Rattle.f3_raw.specs.Region.{region_words, region_size}
use Rattle.f3_heap_laws.specs.Segments.{segments, live_segments, NoneFits}
use Rattle.f3_heap_laws.proofs.HeapLaws.{end-heap, end-live, end-fresh, first-lacking}
use Rattle.f3_heap_laws.proofs.BlockLaws.{heap-at, heap-words, heap-used, room-behind}
use Rattle.f3_heap_laws.proofs.HintHeaps.{hints-at, end-hints}
use Rattle.f3_heap.proofs.Hinted.{none_fits}
use Rattle.f3_heap.proofs.heap_blocks.take_last.Goals as goal

pub overflow_sub-frontier : goal.overflow_sub-frontier
overflow_sub-frontier c = omega (arith, c.frontier.ensures.value, heap-words (region_words c.args.region.now) (region_size c.args.region.now) c.args.book.now.size c.args.book.now.first c.args.book.now.end c.args.book.now.used c.requires.heap)

pub overflow_add-book-then-taken-frontier : goal.overflow_add-book-then-taken-frontier
overflow_add-book-then-taken-frontier c = let u = heap-used (region_words c.args.region.now) (region_size c.args.region.now) c.args.book.now.size c.args.book.now.first c.args.book.now.end c.args.book.now.used c.requires.heap in record { fits = omega (arith, u, c.size_of_block-taken.ensures, c.if-taken-frontier.true, c.frontier.ensures.fits, c.requires.room, c.requires.heap.within, c.requires.heap.small) }

pub returns-then-taken-frontier-clause-arena : goal.returns-then-taken-frontier-clause-arena
returns-then-taken-frontier-clause-arena c =
    record {
      heap = heap-at _ _ _ _ c.args.book.now.size _ _ _ _ _ _ (end-heap (region_words c.args.region.now) (region_size c.args.region.now) c.args.book.now.size c.args.book.now.first c.args.book.now.end c.args.book.now.used c.args.words c.requires.heap (omega (arith, c.size_of_block-taken.ensures, c.if-taken-frontier.true, c.frontier.ensures.fits, c.requires.room, c.requires.heap.within)))
          c.write_small.ensures.words c.write_small.ensures.size refl (ap (λ n. c.args.book.now.end + n) c.size_of_block-taken.ensures) (ap (λ n. c.args.book.now.used + n) c.size_of_block-taken.ensures);
      hints = hints-at _ _ c.args.book.now.size _ _ c.args.book.now.hints (end-hints (region_words c.args.region.now) (region_size c.args.region.now) c.args.book.now.size c.args.book.now.first c.args.book.now.end c.args.book.now.used c.requires.heap c.args.book.now.hints c.requires.hints c.args.words (omega (arith, c.size_of_block-taken.ensures, c.if-taken-frontier.true, c.frontier.ensures.fits, c.requires.room, c.requires.heap.within))) c.write_small.ensures.words (ap (λ n. c.args.book.now.end + n) c.size_of_block-taken.ensures);
      room = c.write_small.ensures.size ∙ c.requires.room;
    }

pub returns-then-taken-frontier-clause-taken : goal.returns-then-taken-frontier-clause-taken
returns-then-taken-frontier-clause-taken c =
    (λ i. live_segments (segments (c.write_small.ensures.words i) (c.args.book.now.end + c.size_of_block-taken.ensures i)))
    ∙ end-live (region_words c.args.region.now) (region_size c.args.region.now) c.args.book.now.size c.args.book.now.first c.args.book.now.end c.args.book.now.used c.args.words c.requires.heap (omega (arith, c.size_of_block-taken.ensures, c.if-taken-frontier.true, c.frontier.ensures.fits, c.requires.room, c.requires.heap.within)) (c.args.book.now.end + 1) refl

pub returns-then-taken-frontier-clause-fresh : goal.returns-then-taken-frontier-clause-fresh
returns-then-taken-frontier-clause-fresh c = end-fresh (region_words c.args.region.now) (region_size c.args.region.now) c.args.book.now.size c.args.book.now.first c.args.book.now.end c.args.book.now.used c.args.words c.requires.heap (omega (arith, c.size_of_block-taken.ensures, c.if-taken-frontier.true, c.frontier.ensures.fits, c.requires.room, c.requires.heap.within)) (c.args.book.now.end + 1) refl

pub returns-then-taken-frontier-clause-first : goal.returns-then-taken-frontier-clause-first
returns-then-taken-frontier-clause-first c = first-lacking (region_words c.args.region.now) (region_size c.args.region.now) c.args.book.now.size c.args.book.now.first c.args.book.now.end c.args.book.now.used c.args.words c.requires.heap (subst (λ (k : ℕ). NoneFits k (segments (region_words c.args.region.now) c.args.book.now.end)) c.size_of_block-taken.ensures (none_fits c.args.region.now c.args.book.now c.class_of.result c.size_of_block-taken.result c.requires c.class_of.ensures.within c.class_of.ensures.wide c.if-book-class_of.true)) (omega (arith, c.size_of_block-taken.ensures, c.if-taken-frontier.true, c.frontier.ensures.fits, c.requires.room, c.requires.heap.within))

pub returns-then-taken-frontier-clause-some : goal.returns-then-taken-frontier-clause-some
returns-then-taken-frontier-clause-some c = room-behind (region_words c.args.region.now) (region_size c.args.region.now) c.args.book.now.size c.args.book.now.first c.args.book.now.end c.args.book.now.used c.requires.heap c.args.words c.size_of_block-taken.result c.size_of_block-taken.ensures (none_fits c.args.region.now c.args.book.now c.class_of.result c.size_of_block-taken.result c.requires c.class_of.ensures.within c.class_of.ensures.wide c.if-book-class_of.true) (omega (arith, c.size_of_block-taken.ensures, c.if-taken-frontier.true, c.frontier.ensures.fits, c.requires.room, c.requires.heap.within))
