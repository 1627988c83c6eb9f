-- The front of a free block is cut off.
use Rattle.std.proofs.Common.{◌+◌, ◌-◌, ◌∙◌, length, ap, arith}
use Rattle.f3_raw.specs.Region.{region_words}
use Rattle.f3_heap_laws.specs.Segments.{segments, with_next, with_prev}
use Rattle.f3_heap_laws.proofs.CarveLaws.{run-within, words-within, prev-within, next-within, prev-most, next-most, run-most, run-wide, rest-four, cut-split, cut-exact}
use Rattle.f3_heap_laws.proofs.HintHeaps.{cuts-split, cuts-exact}
use Rattle.f3_heap_laws.proofs.Puts.{length-freed, length-with_next}
use Rattle.f3_heap.proofs.segments.carve.Goals as goal

pub free_size-run-requires : goal.free_size-run-requires
free_size-run-requires c = omega (arith, run-within c.args.none c.args.size (segments (region_words c.args.region.now) c.args.end) (region_words c.args.region.now) c.args.first.now c.args.end c.args.at c.requires.lays c.requires.small.0 c.requires.fits, words-within c.args.none c.args.size (segments (region_words c.args.region.now) c.args.end) (region_words c.args.region.now) c.args.first.now c.args.end c.args.at c.requires.lays c.requires.small.0 c.requires.fits)

pub overflow_add-at : goal.overflow_add-at
overflow_add-at c = let w = run-within c.args.none c.args.size (segments (region_words c.args.region.now) c.args.end) (region_words c.args.region.now) c.args.first.now c.args.end c.args.at c.requires.lays c.requires.small.0 c.requires.fits in record { fits = omega (arith, w, c.ranges.end.fits) }

pub link-next-requires : goal.link-next-requires
link-next-requires c = omega (arith, run-within c.args.none c.args.size (segments (region_words c.args.region.now) c.args.end) (region_words c.args.region.now) c.args.first.now c.args.end c.args.at c.requires.lays c.requires.small.0 c.requires.fits, words-within c.args.none c.args.size (segments (region_words c.args.region.now) c.args.end) (region_words c.args.region.now) c.args.first.now c.args.end c.args.at c.requires.lays c.requires.small.0 c.requires.fits)

pub overflow_add-at-2 : goal.overflow_add-at-2
overflow_add-at-2 c = let w = run-within c.args.none c.args.size (segments (region_words c.args.region.now) c.args.end) (region_words c.args.region.now) c.args.first.now c.args.end c.args.at c.requires.lays c.requires.small.0 c.requires.fits in record { fits = omega (arith, w, c.ranges.end.fits) }

pub link-prev-requires : goal.link-prev-requires
link-prev-requires c = omega (arith, run-within c.args.none c.args.size (segments (region_words c.args.region.now) c.args.end) (region_words c.args.region.now) c.args.first.now c.args.end c.args.at c.requires.lays c.requires.small.0 c.requires.fits, words-within c.args.none c.args.size (segments (region_words c.args.region.now) c.args.end) (region_words c.args.region.now) c.args.first.now c.args.end c.args.at c.requires.lays c.requires.small.0 c.requires.fits)

pub write_free-requires-clause-within : goal.write_free-requires-clause-within
write_free-requires-clause-within c = omega (arith, run-most c.args.none c.args.size (segments (region_words c.args.region.now) c.args.end) (region_words c.args.region.now) c.args.first.now c.args.end c.args.at c.requires.lays c.requires.small.0 c.requires.fits c.free_size-run.result c.link-next.result c.link-prev.result c.free_size-run.ensures c.link-next.ensures c.link-prev.ensures, words-within c.args.none c.args.size (segments (region_words c.args.region.now) c.args.end) (region_words c.args.region.now) c.args.first.now c.args.end c.args.at c.requires.lays c.requires.small.0 c.requires.fits, c.if-run-size.true)

pub write_free-requires-clause-sized : goal.write_free-requires-clause-sized
write_free-requires-clause-sized c = (rest-four c.args.none c.args.size (segments (region_words c.args.region.now) c.args.end) (region_words c.args.region.now) c.args.first.now c.args.end c.args.at c.requires.lays c.requires.small.0 c.requires.fits c.free_size-run.result c.link-next.result c.link-prev.result c.free_size-run.ensures c.link-next.ensures c.link-prev.ensures c.requires.sized.1 c.if-run-size.true, omega (arith, run-most c.args.none c.args.size (segments (region_words c.args.region.now) c.args.end) (region_words c.args.region.now) c.args.first.now c.args.end c.args.at c.requires.lays c.requires.small.0 c.requires.fits c.free_size-run.result c.link-next.result c.link-prev.result c.free_size-run.ensures c.link-next.ensures c.link-prev.ensures, c.requires.small.0, c.requires.small.1))

pub write_free-requires-clause-small : goal.write_free-requires-clause-small
write_free-requires-clause-small c = (omega (arith, next-most c.args.none c.args.size (segments (region_words c.args.region.now) c.args.end) (region_words c.args.region.now) c.args.first.now c.args.end c.args.at c.requires.lays c.requires.small.0 c.requires.fits c.free_size-run.result c.link-next.result c.link-prev.result c.free_size-run.ensures c.link-next.ensures c.link-prev.ensures, c.requires.small.1), omega (arith, prev-most c.args.none c.args.size (segments (region_words c.args.region.now) c.args.end) (region_words c.args.region.now) c.args.first.now c.args.end c.args.at c.requires.lays c.requires.small.0 c.requires.fits c.free_size-run.result c.link-next.result c.link-prev.result c.free_size-run.ensures c.link-next.ensures c.link-prev.ensures, c.requires.small.1))

pub link_next-requires-clause-within : goal.link_next-requires-clause-within
link_next-requires-clause-within c = λ ne. omega (arith, prev-within c.args.none c.args.size (segments (region_words c.args.region.now) c.args.end) (region_words c.args.region.now) c.args.first.now c.args.end c.args.at c.requires.lays c.requires.small.0 c.requires.fits c.free_size-run.result c.link-next.result c.link-prev.result c.free_size-run.ensures c.link-next.ensures c.link-prev.ensures ne, run-within c.args.none c.args.size (segments (region_words c.args.region.now) c.args.end) (region_words c.args.region.now) c.args.first.now c.args.end c.args.at c.requires.lays c.requires.small.0 c.requires.fits, words-within c.args.none c.args.size (segments (region_words c.args.region.now) c.args.end) (region_words c.args.region.now) c.args.first.now c.args.end c.args.at c.requires.lays c.requires.small.0 c.requires.fits, ap length c.write_free.ensures.words, length-freed (region_words c.args.region.now) (c.args.at + c.args.size) (c.free_size-run.result - c.args.size) c.link-next.result c.link-prev.result)

pub link_next-requires-clause-small : goal.link_next-requires-clause-small
link_next-requires-clause-small c = omega (arith, run-most c.args.none c.args.size (segments (region_words c.args.region.now) c.args.end) (region_words c.args.region.now) c.args.first.now c.args.end c.args.at c.requires.lays c.requires.small.0 c.requires.fits c.free_size-run.result c.link-next.result c.link-prev.result c.free_size-run.ensures c.link-next.ensures c.link-prev.ensures, run-wide c.args.none c.args.size (segments (region_words c.args.region.now) c.args.end) (region_words c.args.region.now) c.args.first.now c.args.end c.args.at c.requires.lays c.requires.small.0 c.requires.fits c.free_size-run.result c.link-next.result c.link-prev.result c.free_size-run.ensures c.link-next.ensures c.link-prev.ensures, c.requires.small.0, c.requires.small.1)

pub link_prev-requires-clause-within : goal.link_prev-requires-clause-within
link_prev-requires-clause-within c = λ ne. omega (arith, next-within c.args.none c.args.size (segments (region_words c.args.region.now) c.args.end) (region_words c.args.region.now) c.args.first.now c.args.end c.args.at c.requires.lays c.requires.small.0 c.requires.fits c.free_size-run.result c.link-next.result c.link-prev.result c.free_size-run.ensures c.link-next.ensures c.link-prev.ensures ne, words-within c.args.none c.args.size (segments (region_words c.args.region.now) c.args.end) (region_words c.args.region.now) c.args.first.now c.args.end c.args.at c.requires.lays c.requires.small.0 c.requires.fits, ap length c.link_next.ensures.words, length-with_next (region_words c.write_free.new.region) c.args.none c.link-prev.result (c.args.at + c.args.size), ap length c.write_free.ensures.words, length-freed (region_words c.args.region.now) (c.args.at + c.args.size) (c.free_size-run.result - c.args.size) c.link-next.result c.link-prev.result)

pub link_prev-requires-clause-small : goal.link_prev-requires-clause-small
link_prev-requires-clause-small c = omega (arith, run-most c.args.none c.args.size (segments (region_words c.args.region.now) c.args.end) (region_words c.args.region.now) c.args.first.now c.args.end c.args.at c.requires.lays c.requires.small.0 c.requires.fits c.free_size-run.result c.link-next.result c.link-prev.result c.free_size-run.ensures c.link-next.ensures c.link-prev.ensures, run-wide c.args.none c.args.size (segments (region_words c.args.region.now) c.args.end) (region_words c.args.region.now) c.args.first.now c.args.end c.args.at c.requires.lays c.requires.small.0 c.requires.fits c.free_size-run.result c.link-next.result c.link-prev.result c.free_size-run.ensures c.link-next.ensures c.link-prev.ensures, c.requires.small.0, c.requires.small.1)

pub link_next-requires-else-run-size-clause-within : goal.link_next-requires-else-run-size-clause-within
link_next-requires-else-run-size-clause-within c = λ ne. omega (arith, prev-within c.args.none c.args.size (segments (region_words c.args.region.now) c.args.end) (region_words c.args.region.now) c.args.first.now c.args.end c.args.at c.requires.lays c.requires.small.0 c.requires.fits c.free_size-run.result c.link-next.result c.link-prev.result c.free_size-run.ensures c.link-next.ensures c.link-prev.ensures ne, run-within c.args.none c.args.size (segments (region_words c.args.region.now) c.args.end) (region_words c.args.region.now) c.args.first.now c.args.end c.args.at c.requires.lays c.requires.small.0 c.requires.fits, words-within c.args.none c.args.size (segments (region_words c.args.region.now) c.args.end) (region_words c.args.region.now) c.args.first.now c.args.end c.args.at c.requires.lays c.requires.small.0 c.requires.fits)

pub link_next-requires-else-run-size-clause-small : goal.link_next-requires-else-run-size-clause-small
link_next-requires-else-run-size-clause-small c = omega (arith, next-most c.args.none c.args.size (segments (region_words c.args.region.now) c.args.end) (region_words c.args.region.now) c.args.first.now c.args.end c.args.at c.requires.lays c.requires.small.0 c.requires.fits c.free_size-run.result c.link-next.result c.link-prev.result c.free_size-run.ensures c.link-next.ensures c.link-prev.ensures, c.requires.small.1)

pub link_prev-requires-else-run-size-clause-within : goal.link_prev-requires-else-run-size-clause-within
link_prev-requires-else-run-size-clause-within c = λ ne. omega (arith, next-within c.args.none c.args.size (segments (region_words c.args.region.now) c.args.end) (region_words c.args.region.now) c.args.first.now c.args.end c.args.at c.requires.lays c.requires.small.0 c.requires.fits c.free_size-run.result c.link-next.result c.link-prev.result c.free_size-run.ensures c.link-next.ensures c.link-prev.ensures ne, words-within c.args.none c.args.size (segments (region_words c.args.region.now) c.args.end) (region_words c.args.region.now) c.args.first.now c.args.end c.args.at c.requires.lays c.requires.small.0 c.requires.fits, ap length c.link_next-else-run-size.ensures.words, length-with_next (region_words c.args.region.now) c.args.none c.link-prev.result c.link-next.result)

pub link_prev-requires-else-run-size-clause-small : goal.link_prev-requires-else-run-size-clause-small
link_prev-requires-else-run-size-clause-small c = omega (arith, prev-most c.args.none c.args.size (segments (region_words c.args.region.now) c.args.end) (region_words c.args.region.now) c.args.first.now c.args.end c.args.at c.requires.lays c.requires.small.0 c.requires.fits c.free_size-run.result c.link-next.result c.link-prev.result c.free_size-run.ensures c.link-next.ensures c.link-prev.ensures, c.requires.small.1)

pub returns-then-run-size-clause-cuts : goal.returns-then-run-size-clause-cuts
returns-then-run-size-clause-cuts c =
    cuts-split c.args.none c.args.size (segments (region_words c.args.region.now) c.args.end) (region_words c.args.region.now) c.args.first.now c.args.end c.args.at c.requires.lays c.link_next.new.first (region_words c.link_prev.new.region)
    (cut-split c.args.none c.args.size (segments (region_words c.args.region.now) c.args.end) (region_words c.args.region.now) c.args.first.now c.args.end c.args.at c.requires.lays c.requires.small.0 c.requires.fits c.free_size-run.result c.link-next.result c.link-prev.result c.free_size-run.ensures c.link-next.ensures c.link-prev.ensures (region_words c.link_prev.new.region) c.link_next.new.first c.requires.sized.1 c.if-run-size.true
    (c.link_prev.ensures.words ∙ ap (λ z. with_prev z c.args.none c.link-next.result (c.args.at + c.args.size)) (c.link_next.ensures.words ∙ ap (λ z. with_next z c.args.none c.link-prev.result (c.args.at + c.args.size)) c.write_free.ensures.words)) c.link_next.ensures.first)
    c.free_size-run.result c.link-next.result c.free_size-run.ensures c.link-next.ensures c.if-run-size.true

pub returns-else-run-size-clause-cuts : goal.returns-else-run-size-clause-cuts
returns-else-run-size-clause-cuts c =
    cuts-exact c.args.none c.args.size (segments (region_words c.args.region.now) c.args.end) (region_words c.args.region.now) c.args.first.now c.args.end c.args.at c.requires.lays c.link_next-else-run-size.new.first (region_words c.link_prev-else-run-size.new.region)
    (cut-exact c.args.none c.args.size (segments (region_words c.args.region.now) c.args.end) (region_words c.args.region.now) c.args.first.now c.args.end c.args.at c.requires.lays c.requires.small.0 c.requires.fits c.free_size-run.result c.link-next.result c.link-prev.result c.free_size-run.ensures c.link-next.ensures c.link-prev.ensures (region_words c.link_prev-else-run-size.new.region) c.link_next-else-run-size.new.first c.if-run-size.false
    (c.link_prev-else-run-size.ensures.words ∙ ap (λ z. with_prev z c.args.none c.link-next.result c.link-prev.result) c.link_next-else-run-size.ensures.words) c.link_next-else-run-size.ensures.first)
    c.free_size-run.result c.link-next.result c.free_size-run.ensures c.link-next.ensures c.if-run-size.false

pub overflow_add-rest : goal.overflow_add-rest
overflow_add-rest c = let w = run-most c.args.none c.args.size (segments (region_words c.args.region.now) c.args.end) (region_words c.args.region.now) c.args.first.now c.args.end c.args.at c.requires.lays c.requires.small.0 c.requires.fits c.free_size-run.result c.link-next.result c.link-prev.result c.free_size-run.ensures c.link-next.ensures c.link-prev.ensures in let k = run-wide c.args.none c.args.size (segments (region_words c.args.region.now) c.args.end) (region_words c.args.region.now) c.args.first.now c.args.end c.args.at c.requires.lays c.requires.small.0 c.requires.fits c.free_size-run.result c.link-next.result c.link-prev.result c.free_size-run.ensures c.link-next.ensures c.link-prev.ensures in record { fits = omega (arith, w, k, c.ranges.end.fits) }
