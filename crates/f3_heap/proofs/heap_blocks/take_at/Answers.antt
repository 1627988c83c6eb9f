-- A block at the front of a free one.
use Rattle.std.proofs.Common.{◌+◌, ◌∙◌, ℕ, ap, sym, subst, refl, arith}
use Rattle.f3_raw.specs.Region.{region_words, region_size}
use Rattle.f3_heap_laws.specs.Segments.{segments, live_segments, Cuts, FitsAt}
use Rattle.f3_heap_laws.specs.Hints.{CutsTo}
use Rattle.f3_heap_laws.proofs.HeapLaws.{cut-heap, cut-live, cut-fresh}
use Rattle.f3_heap_laws.proofs.BlockLaws.{heap-at, heap-words, fits-within, cut-used}
use Rattle.f3_heap_laws.proofs.Segs.{r-above}
use Rattle.f3_heap_laws.proofs.HintHeaps.{hints-at, cut-hints}
use Rattle.f3_heap.proofs.heap_blocks.take_at.Goals as goal

pub size_of_block-taken-requires : goal.size_of_block-taken-requires
size_of_block-taken-requires c = omega (arith, fits-within (region_words c.args.region.now) (region_size c.args.region.now) c.args.book.now.size c.args.book.now.first c.args.book.now.end c.args.book.now.used c.requires.arena.heap _ c.args.at c.requires.fits, c.requires.arena.heap.within, c.requires.arena.heap.small)

pub carve-next-requires-clause-fits : goal.carve-next-requires-clause-fits
carve-next-requires-clause-fits c = subst (λ (k : ℕ). FitsAt k (segments (region_words c.args.region.now) c.args.book.now.end) c.args.at) (sym c.size_of_block-taken.ensures) c.requires.fits

pub overflow_add-book : goal.overflow_add-book
overflow_add-book c = let u = cut-used (region_words c.args.region.now) (region_size c.args.region.now) c.args.book.now.size c.args.book.now.first c.args.book.now.end c.args.book.now.used c.requires.arena.heap c.args.words c.size_of_block-taken.result c.args.at c.carve-next.new.first (region_words c.carve-next.new.region) c.size_of_block-taken.ensures c.carve-next.ensures.cuts.cuts in record { fits = omega (arith, u, c.requires.arena.heap.within, c.requires.arena.heap.small) }

pub write_used-requires-clause-reached : goal.write_used-requires-clause-reached
write_used-requires-clause-reached c = omega (arith, c.carve-next.ensures.length, heap-words (region_words c.args.region.now) (region_size c.args.region.now) c.args.book.now.size c.args.book.now.first c.args.book.now.end c.args.book.now.used c.requires.arena.heap, fits-within (region_words c.args.region.now) (region_size c.args.region.now) c.args.book.now.size c.args.book.now.first c.args.book.now.end c.args.book.now.used c.requires.arena.heap c.size_of_block-taken.result c.args.at (subst (λ (k : ℕ). FitsAt k (segments (region_words c.args.region.now) c.args.book.now.end) c.args.at) (sym c.size_of_block-taken.ensures) c.requires.fits))

pub write_used-requires-clause-inside : goal.write_used-requires-clause-inside
write_used-requires-clause-inside c = omega (arith, c.carve-next.ensures.size, c.requires.arena.heap.within, c.requires.arena.heap.fits, fits-within (region_words c.args.region.now) (region_size c.args.region.now) c.args.book.now.size c.args.book.now.first c.args.book.now.end c.args.book.now.used c.requires.arena.heap c.size_of_block-taken.result c.args.at (subst (λ (k : ℕ). FitsAt k (segments (region_words c.args.region.now) c.args.book.now.end) c.args.at) (sym c.size_of_block-taken.ensures) c.requires.fits))

pub returns-clause-arena : goal.returns-clause-arena
returns-clause-arena c =
    record {
      heap = heap-at _ _ _ _ c.args.book.now.size _ _ _ _ _ _ (cut-heap (region_words c.args.region.now) (region_size c.args.region.now) c.args.book.now.size c.args.book.now.first c.args.book.now.end c.args.book.now.used c.args.words c.args.at c.carve-next.new.first c.requires.arena.heap (region_words c.carve-next.new.region) (subst (λ (m : ℕ). Cuts c.args.book.now.size m (segments (region_words c.args.region.now) c.args.book.now.end) c.args.at c.carve-next.new.first c.args.book.now.end (region_words c.carve-next.new.region)) c.size_of_block-taken.ensures c.carve-next.ensures.cuts.cuts))
          c.write_used.ensures.words (c.write_used.ensures.size ∙ c.carve-next.ensures.size) refl refl (ap (λ n. c.args.book.now.used + n) c.size_of_block-taken.ensures);
      hints = hints-at _ _ c.args.book.now.size _ _ c.move_hints.new.hints (cut-hints (region_words c.args.region.now) (region_size c.args.region.now) c.args.book.now.size c.args.book.now.first c.args.book.now.end c.args.book.now.used c.requires.arena.heap c.args.book.now.hints c.requires.arena.hints c.args.words c.args.at c.carve-next.result c.carve-next.new.first (region_words c.carve-next.new.region) (subst (λ (m : ℕ). CutsTo c.args.book.now.size m (segments (region_words c.args.region.now) c.args.book.now.end) c.args.at c.carve-next.result c.carve-next.new.first c.args.book.now.end (region_words c.carve-next.new.region)) c.size_of_block-taken.ensures c.carve-next.ensures.cuts) c.move_hints.new.hints c.move_hints.ensures.moved) c.write_used.ensures.words refl;
      room = c.write_used.ensures.size ∙ c.carve-next.ensures.size ∙ c.requires.arena.room;
    }

pub returns-clause-taken : goal.returns-clause-taken
returns-clause-taken c =
    ap (λ z. live_segments (segments z c.args.book.now.end)) c.write_used.ensures.words
    ∙ cut-live (region_words c.args.region.now) (region_size c.args.region.now) c.args.book.now.size c.args.book.now.first c.args.book.now.end c.args.book.now.used c.args.words c.args.at c.carve-next.new.first c.requires.arena.heap (region_words c.carve-next.new.region) (subst (λ (m : ℕ). Cuts c.args.book.now.size m (segments (region_words c.args.region.now) c.args.book.now.end) c.args.at c.carve-next.new.first c.args.book.now.end (region_words c.carve-next.new.region)) c.size_of_block-taken.ensures c.carve-next.ensures.cuts.cuts) (c.args.at + 1) refl

pub returns-clause-fresh : goal.returns-clause-fresh
returns-clause-fresh c =
    cut-fresh (region_words c.args.region.now) (region_size c.args.region.now) c.args.book.now.size c.args.book.now.first c.args.book.now.end c.args.book.now.used c.args.words c.args.at c.carve-next.new.first c.requires.arena.heap (region_words c.carve-next.new.region) (subst (λ (m : ℕ). Cuts c.args.book.now.size m (segments (region_words c.args.region.now) c.args.book.now.end) c.args.at c.carve-next.new.first c.args.book.now.end (region_words c.carve-next.new.region)) c.size_of_block-taken.ensures c.carve-next.ensures.cuts.cuts) (c.args.at + 1) refl

pub overflow_add-at : goal.overflow_add-at
overflow_add-at c =
    let w = fits-within (region_words c.args.region.now) (region_size c.args.region.now) c.args.book.now.size c.args.book.now.first c.args.book.now.end c.args.book.now.used c.requires.arena.heap _ c.args.at c.requires.fits in
    record { fits = omega (arith, w, c.requires.arena.heap.within, c.requires.arena.heap.small) }

pub write_used-requires-clause-small : goal.write_used-requires-clause-small
write_used-requires-clause-small c = omega (arith, r-above c.args.words, fits-within (region_words c.args.region.now) (region_size c.args.region.now) c.args.book.now.size c.args.book.now.first c.args.book.now.end c.args.book.now.used c.requires.arena.heap _ c.args.at c.requires.fits, c.requires.arena.heap.within, c.requires.arena.heap.small)
