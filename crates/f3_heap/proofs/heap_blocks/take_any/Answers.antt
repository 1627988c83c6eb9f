-- The first fit, or the words behind all blocks.
use Rattle.std.proofs.Common.{◌+◌, ◌∙◌, ℕ, ap, sym, subst, refl, arith}
use Rattle.f3_raw.specs.Region.{region_words, region_size}
use Rattle.f3_heap_laws.specs.Segments.{segments, live_segments}
use Rattle.f3_heap_laws.proofs.HeapLaws.{end-heap, end-live, end-fresh, room-fits, first-fits, first-lacking}
use Rattle.f3_heap_laws.proofs.BlockLaws.{heap-at, heap-words, heap-used, room-large, room-full, room-behind, fits-within}
use Rattle.f3_heap_laws.specs.Segments.{NoneFits, FitsAt}
use Rattle.f3_live_blocks.specs.Blocks.{with_taken}
use Rattle.f3_heap_laws.specs.Gaps.{gaps, places, is_wide, first_wide}
use Rattle.std.specs.List.{list_any}
use Rattle.std.specs.FinMap.{get}
use Rattle.f3_heap_laws.proofs.HintHeaps.{hints-at, end-hints}
use Rattle.f3_heap.proofs.heap_blocks.take_any.Goals as goal

pub returns-then-not-fits-clause-none : goal.returns-then-not-fits-clause-none
returns-then-not-fits-clause-none c = room-large (region_words c.args.region.now) (region_size c.args.region.now) c.args.book.now.size c.args.book.now.first c.args.book.now.end c.args.book.now.used c.requires.heap c.args.words c.fits.result c.if-not-fits.true c.fits.ensures

pub returns-then-book-taken-clause-none : goal.returns-then-book-taken-clause-none
returns-then-book-taken-clause-none c =
    (λ i. list_any (is_wide c.args.words) (gaps (places (sym c.find_room-at.ensures.same i)) (sym c.find_room-at.ensures.size i))) ∙ room-full (region_words c.args.region.now) (region_size c.args.region.now) c.find_room-at.new.book.size c.find_room-at.new.book.first c.find_room-at.new.book.end c.find_room-at.new.book.used c.find_room-at.ensures.arena.heap c.args.words c.size_of_block-taken.result c.size_of_block-taken.ensures (c.find_room-at.ensures.lacking c.if-at-book.true) c.if-book-taken.true

pub overflow_add-book-then-at-book : goal.overflow_add-book-then-at-book
overflow_add-book-then-at-book c = let u = heap-used (region_words c.args.region.now) (region_size c.args.region.now) c.find_room-at.new.book.size c.find_room-at.new.book.first c.find_room-at.new.book.end c.find_room-at.new.book.used c.find_room-at.ensures.arena.heap in record { fits = omega (arith, u, c.find_room-at.ensures.arena.heap.within, c.find_room-at.ensures.arena.heap.small, c.if-book-taken.false) }

pub write_used-requires-clause-reached : goal.write_used-requires-clause-reached
write_used-requires-clause-reached c = heap-words (region_words c.args.region.now) (region_size c.args.region.now) c.find_room-at.new.book.size c.find_room-at.new.book.first c.find_room-at.new.book.end c.find_room-at.new.book.used c.find_room-at.ensures.arena.heap

pub returns-then-at-book-clause-arena : goal.returns-then-at-book-clause-arena
returns-then-at-book-clause-arena c =
    record {
      heap = heap-at _ _ _ _ c.find_room-at.new.book.size _ _ _ _ _ _ (end-heap (region_words c.args.region.now) (region_size c.args.region.now) c.find_room-at.new.book.size c.find_room-at.new.book.first c.find_room-at.new.book.end c.find_room-at.new.book.used c.args.words c.find_room-at.ensures.arena.heap (omega (arith, c.size_of_block-taken.ensures, c.if-book-taken.false, c.find_room-at.ensures.arena.heap.within)))
          c.write_used.ensures.words c.write_used.ensures.size refl (ap (λ n. c.find_room-at.new.book.end + n) c.size_of_block-taken.ensures) (ap (λ n. c.find_room-at.new.book.used + n) c.size_of_block-taken.ensures);
      hints = hints-at _ _ c.find_room-at.new.book.size _ _ c.find_room-at.new.book.hints (end-hints (region_words c.args.region.now) (region_size c.args.region.now) c.find_room-at.new.book.size c.find_room-at.new.book.first c.find_room-at.new.book.end c.find_room-at.new.book.used c.find_room-at.ensures.arena.heap c.find_room-at.new.book.hints c.find_room-at.ensures.arena.hints c.args.words (omega (arith, c.size_of_block-taken.ensures, c.if-book-taken.false, c.find_room-at.ensures.arena.heap.within))) c.write_used.ensures.words (ap (λ n. c.find_room-at.new.book.end + n) c.size_of_block-taken.ensures);
      room = c.write_used.ensures.size ∙ c.find_room-at.ensures.arena.room;
    }

pub returns-then-at-book-clause-taken : goal.returns-then-at-book-clause-taken
returns-then-at-book-clause-taken c =
    (λ i. live_segments (segments (c.write_used.ensures.words i) (c.find_room-at.new.book.end + c.size_of_block-taken.ensures i)))
    ∙ end-live (region_words c.args.region.now) (region_size c.args.region.now) c.find_room-at.new.book.size c.find_room-at.new.book.first c.find_room-at.new.book.end c.find_room-at.new.book.used c.args.words c.find_room-at.ensures.arena.heap (omega (arith, c.size_of_block-taken.ensures, c.if-book-taken.false, c.find_room-at.ensures.arena.heap.within)) (c.find_room-at.new.book.end + 1) refl
    ∙ ap (λ m. with_taken m (c.find_room-at.new.book.end + 1) c.args.words) c.find_room-at.ensures.same

pub returns-then-at-book-clause-fresh : goal.returns-then-at-book-clause-fresh
returns-then-at-book-clause-fresh c =
    ap (λ m. get m (c.find_room-at.new.book.end + 1)) (sym c.find_room-at.ensures.same) ∙ end-fresh (region_words c.args.region.now) (region_size c.args.region.now) c.find_room-at.new.book.size c.find_room-at.new.book.first c.find_room-at.new.book.end c.find_room-at.new.book.used c.args.words c.find_room-at.ensures.arena.heap (omega (arith, c.size_of_block-taken.ensures, c.if-book-taken.false, c.find_room-at.ensures.arena.heap.within)) (c.find_room-at.new.book.end + 1) refl

pub returns-then-at-book-clause-first : goal.returns-then-at-book-clause-first
returns-then-at-book-clause-first c =
    (λ i. first_wide c.args.words (gaps (places (sym c.find_room-at.ensures.same i)) (sym c.find_room-at.ensures.size i))) ∙ first-lacking (region_words c.args.region.now) (region_size c.args.region.now) c.find_room-at.new.book.size c.find_room-at.new.book.first c.find_room-at.new.book.end c.find_room-at.new.book.used c.args.words c.find_room-at.ensures.arena.heap (subst (λ (k : ℕ). NoneFits k (segments (region_words c.args.region.now) c.find_room-at.new.book.end)) c.size_of_block-taken.ensures (c.find_room-at.ensures.lacking c.if-at-book.true)) (omega (arith, c.size_of_block-taken.ensures, c.if-book-taken.false))

pub returns-then-at-book-clause-some : goal.returns-then-at-book-clause-some
returns-then-at-book-clause-some c =
    (λ i. list_any (is_wide c.args.words) (gaps (places (sym c.find_room-at.ensures.same i)) (sym c.find_room-at.ensures.size i))) ∙ room-behind (region_words c.args.region.now) (region_size c.args.region.now) c.find_room-at.new.book.size c.find_room-at.new.book.first c.find_room-at.new.book.end c.find_room-at.new.book.used c.find_room-at.ensures.arena.heap c.args.words c.size_of_block-taken.result c.size_of_block-taken.ensures (c.find_room-at.ensures.lacking c.if-at-book.true) (omega (arith, c.if-book-taken.false))

pub returns-clause-first : goal.returns-clause-first
returns-clause-first c =
    (λ i. first_wide c.args.words (gaps (places (sym c.find_room-at.ensures.same i)) (sym c.find_room-at.ensures.size i))) ∙ first-fits (region_words c.args.region.now) (region_size c.args.region.now) c.find_room-at.new.book.size c.find_room-at.new.book.first c.find_room-at.new.book.end c.find_room-at.new.book.used c.args.words c.find_room-at.ensures.arena.heap c.find_room-at.result (subst (λ (k : ℕ). FitsAt k (segments (region_words c.args.region.now) c.find_room-at.new.book.end) c.find_room-at.result) c.size_of_block-taken.ensures (c.find_room-at.ensures.fits c.if-at-book.false))

pub returns-clause-small : goal.returns-clause-small
returns-clause-small c = omega (arith, c.find_room-at.ensures.arena.heap.within, c.find_room-at.ensures.arena.heap.small, fits-within (region_words c.args.region.now) (region_size c.args.region.now) c.find_room-at.new.book.size c.find_room-at.new.book.first c.find_room-at.new.book.end c.find_room-at.new.book.used c.find_room-at.ensures.arena.heap c.size_of_block-taken.result c.find_room-at.result (c.find_room-at.ensures.fits c.if-at-book.false))

pub returns-clause-some : goal.returns-clause-some
returns-clause-some c =
    (λ i. list_any (is_wide c.args.words) (gaps (places (sym c.find_room-at.ensures.same i)) (sym c.find_room-at.ensures.size i))) ∙ room-fits (region_words c.args.region.now) (region_size c.args.region.now) c.find_room-at.new.book.size c.find_room-at.new.book.first c.find_room-at.new.book.end c.find_room-at.new.book.used c.args.words c.find_room-at.ensures.arena.heap c.find_room-at.result (subst (λ (k : ℕ). FitsAt k (segments (region_words c.args.region.now) c.find_room-at.new.book.end) c.find_room-at.result) c.size_of_block-taken.ensures (c.find_room-at.ensures.fits c.if-at-book.false))

pub take_at-requires-clause-fits : goal.take_at-requires-clause-fits
take_at-requires-clause-fits c = subst (λ (k : ℕ). FitsAt k (segments (region_words c.args.region.now) c.find_room-at.new.book.end) c.find_room-at.result) c.size_of_block-taken.ensures (c.find_room-at.ensures.fits c.if-at-book.false)

pub returns-clause-taken : goal.returns-clause-taken
returns-clause-taken c = c.take_at.ensures.taken ∙ ap (λ m. with_taken m (c.find_room-at.result + 1) c.args.words) c.find_room-at.ensures.same

pub returns-clause-fresh : goal.returns-clause-fresh
returns-clause-fresh c = ap (λ m. get m (c.find_room-at.result + 1)) (sym c.find_room-at.ensures.same) ∙ c.take_at.ensures.fresh
