-- The neighbours are read, and joined.
use Rattle.std.proofs.Common.{arith}
use Rattle.f3_raw.specs.Region.{region_words}
use Rattle.f3_heap_laws.specs.Segments.{segments}
use Rattle.f3_heap_laws.proofs.AroundLaws.{block-within, all-within, left-most, left-four, right-most, right-four, before-within, around-is}
use Rattle.f3_heap.proofs.segments.run_around.Goals as goal

pub overflow_add-behind : goal.overflow_add-behind
overflow_add-behind c = let w = block-within c.args.none (segments (region_words c.args.region.now) c.args.end) (region_words c.args.region.now) c.args.first c.args.end c.args.at c.args.size c.requires.lays c.requires.small.0 c.requires.block c.requires.sized in record { fits = omega (arith, w, c.ranges.end.fits) }

pub free_left-left-requires : goal.free_left-left-requires
free_left-left-requires c = omega (arith, block-within c.args.none (segments (region_words c.args.region.now) c.args.end) (region_words c.args.region.now) c.args.first c.args.end c.args.at c.args.size c.requires.lays c.requires.small.0 c.requires.block c.requires.sized, all-within c.args.none (segments (region_words c.args.region.now) c.args.end) (region_words c.args.region.now) c.args.first c.args.end c.args.at c.args.size c.requires.lays c.requires.small.0 c.requires.block c.requires.sized)

pub free_right-right-requires : goal.free_right-right-requires
free_right-right-requires c = all-within c.args.none (segments (region_words c.args.region.now) c.args.end) (region_words c.args.region.now) c.args.first c.args.end c.args.at c.args.size c.requires.lays c.requires.small.0 c.requires.block c.requires.sized

pub run_prev-prev-requires-clause-left_in : goal.run_prev-prev-requires-clause-left_in
run_prev-prev-requires-clause-left_in c = λ p. (left-most c.args.none (segments (region_words c.args.region.now) c.args.end) (region_words c.args.region.now) c.args.first c.args.end c.args.at c.args.size c.requires.lays c.requires.small.0 c.requires.block c.requires.sized c.free_left-left.result c.free_right-right.result c.free_left-left.ensures.start c.free_left-left.ensures.tag c.free_right-right.ensures.head c.free_right-right.ensures.end, omega (arith, left-most c.args.none (segments (region_words c.args.region.now) c.args.end) (region_words c.args.region.now) c.args.first c.args.end c.args.at c.args.size c.requires.lays c.requires.small.0 c.requires.block c.requires.sized c.free_left-left.result c.free_right-right.result c.free_left-left.ensures.start c.free_left-left.ensures.tag c.free_right-right.ensures.head c.free_right-right.ensures.end, left-four c.args.none (segments (region_words c.args.region.now) c.args.end) (region_words c.args.region.now) c.args.first c.args.end c.args.at c.args.size c.requires.lays c.requires.small.0 c.requires.block c.requires.sized c.free_left-left.result c.free_right-right.result c.free_left-left.ensures.start c.free_left-left.ensures.tag c.free_right-right.ensures.head c.free_right-right.ensures.end p, block-within c.args.none (segments (region_words c.args.region.now) c.args.end) (region_words c.args.region.now) c.args.first c.args.end c.args.at c.args.size c.requires.lays c.requires.small.0 c.requires.block c.requires.sized, all-within c.args.none (segments (region_words c.args.region.now) c.args.end) (region_words c.args.region.now) c.args.first c.args.end c.args.at c.args.size c.requires.lays c.requires.small.0 c.requires.block c.requires.sized))

pub run_prev-prev-requires-clause-right_in : goal.run_prev-prev-requires-clause-right_in
run_prev-prev-requires-clause-right_in c = λ p. omega (arith, right-most c.args.none (segments (region_words c.args.region.now) c.args.end) (region_words c.args.region.now) c.args.first c.args.end c.args.at c.args.size c.requires.lays c.requires.small.0 c.requires.block c.requires.sized c.free_left-left.result c.free_right-right.result c.free_left-left.ensures.start c.free_left-left.ensures.tag c.free_right-right.ensures.head c.free_right-right.ensures.end, right-four c.args.none (segments (region_words c.args.region.now) c.args.end) (region_words c.args.region.now) c.args.first c.args.end c.args.at c.args.size c.requires.lays c.requires.small.0 c.requires.block c.requires.sized c.free_left-left.result c.free_right-right.result c.free_left-left.ensures.start c.free_left-left.ensures.tag c.free_right-right.ensures.head c.free_right-right.ensures.end p, all-within c.args.none (segments (region_words c.args.region.now) c.args.end) (region_words c.args.region.now) c.args.first c.args.end c.args.at c.args.size c.requires.lays c.requires.small.0 c.requires.block c.requires.sized)

pub run_next-next-requires-clause-left_in : goal.run_next-next-requires-clause-left_in
run_next-next-requires-clause-left_in c = λ p. (left-most c.args.none (segments (region_words c.args.region.now) c.args.end) (region_words c.args.region.now) c.args.first c.args.end c.args.at c.args.size c.requires.lays c.requires.small.0 c.requires.block c.requires.sized c.free_left-left.result c.free_right-right.result c.free_left-left.ensures.start c.free_left-left.ensures.tag c.free_right-right.ensures.head c.free_right-right.ensures.end, omega (arith, left-most c.args.none (segments (region_words c.args.region.now) c.args.end) (region_words c.args.region.now) c.args.first c.args.end c.args.at c.args.size c.requires.lays c.requires.small.0 c.requires.block c.requires.sized c.free_left-left.result c.free_right-right.result c.free_left-left.ensures.start c.free_left-left.ensures.tag c.free_right-right.ensures.head c.free_right-right.ensures.end, left-four c.args.none (segments (region_words c.args.region.now) c.args.end) (region_words c.args.region.now) c.args.first c.args.end c.args.at c.args.size c.requires.lays c.requires.small.0 c.requires.block c.requires.sized c.free_left-left.result c.free_right-right.result c.free_left-left.ensures.start c.free_left-left.ensures.tag c.free_right-right.ensures.head c.free_right-right.ensures.end p, block-within c.args.none (segments (region_words c.args.region.now) c.args.end) (region_words c.args.region.now) c.args.first c.args.end c.args.at c.args.size c.requires.lays c.requires.small.0 c.requires.block c.requires.sized, all-within c.args.none (segments (region_words c.args.region.now) c.args.end) (region_words c.args.region.now) c.args.first c.args.end c.args.at c.args.size c.requires.lays c.requires.small.0 c.requires.block c.requires.sized))

pub run_next-next-requires-clause-right_in : goal.run_next-next-requires-clause-right_in
run_next-next-requires-clause-right_in c = λ p. omega (arith, right-most c.args.none (segments (region_words c.args.region.now) c.args.end) (region_words c.args.region.now) c.args.first c.args.end c.args.at c.args.size c.requires.lays c.requires.small.0 c.requires.block c.requires.sized c.free_left-left.result c.free_right-right.result c.free_left-left.ensures.start c.free_left-left.ensures.tag c.free_right-right.ensures.head c.free_right-right.ensures.end, right-four c.args.none (segments (region_words c.args.region.now) c.args.end) (region_words c.args.region.now) c.args.first c.args.end c.args.at c.args.size c.requires.lays c.requires.small.0 c.requires.block c.requires.sized c.free_left-left.result c.free_right-right.result c.free_left-left.ensures.start c.free_left-left.ensures.tag c.free_right-right.ensures.head c.free_right-right.ensures.end p, all-within c.args.none (segments (region_words c.args.region.now) c.args.end) (region_words c.args.region.now) c.args.first c.args.end c.args.at c.args.size c.requires.lays c.requires.small.0 c.requires.block c.requires.sized)

pub run_next-next-requires-clause-prev_in : goal.run_next-next-requires-clause-prev_in
run_next-next-requires-clause-prev_in c = λ l r ne. omega (arith, before-within c.args.none (segments (region_words c.args.region.now) c.args.end) (region_words c.args.region.now) c.args.first c.args.end c.args.at c.args.size c.requires.lays c.requires.small.0 c.requires.block c.requires.sized c.free_left-left.result c.free_right-right.result c.free_left-left.ensures.start c.free_left-left.ensures.tag c.free_right-right.ensures.head c.free_right-right.ensures.end c.run_prev-prev.result (c.run_prev-prev.ensures.alone l r) ne, all-within c.args.none (segments (region_words c.args.region.now) c.args.end) (region_words c.args.region.now) c.args.first c.args.end c.args.at c.args.size c.requires.lays c.requires.small.0 c.requires.block c.requires.sized)

pub overflow_sub-result : goal.overflow_sub-result
overflow_sub-result c = left-most c.args.none (segments (region_words c.args.region.now) c.args.end) (region_words c.args.region.now) c.args.first c.args.end c.args.at c.args.size c.requires.lays c.requires.small.0 c.requires.block c.requires.sized c.free_left-left.result c.free_right-right.result c.free_left-left.ensures.start c.free_left-left.ensures.tag c.free_right-right.ensures.head c.free_right-right.ensures.end

pub overflow_add-result : goal.overflow_add-result
overflow_add-result c = let w = block-within c.args.none (segments (region_words c.args.region.now) c.args.end) (region_words c.args.region.now) c.args.first c.args.end c.args.at c.args.size c.requires.lays c.requires.small.0 c.requires.block c.requires.sized in let l = left-most c.args.none (segments (region_words c.args.region.now) c.args.end) (region_words c.args.region.now) c.args.first c.args.end c.args.at c.args.size c.requires.lays c.requires.small.0 c.requires.block c.requires.sized c.free_left-left.result c.free_right-right.result c.free_left-left.ensures.start c.free_left-left.ensures.tag c.free_right-right.ensures.head c.free_right-right.ensures.end in record { fits = omega (arith, w, l, c.ranges.end.fits) }

pub overflow_add-result-2 : goal.overflow_add-result-2
overflow_add-result-2 c = let w = right-most c.args.none (segments (region_words c.args.region.now) c.args.end) (region_words c.args.region.now) c.args.first c.args.end c.args.at c.args.size c.requires.lays c.requires.small.0 c.requires.block c.requires.sized c.free_left-left.result c.free_right-right.result c.free_left-left.ensures.start c.free_left-left.ensures.tag c.free_right-right.ensures.head c.free_right-right.ensures.end in let l = left-most c.args.none (segments (region_words c.args.region.now) c.args.end) (region_words c.args.region.now) c.args.first c.args.end c.args.at c.args.size c.requires.lays c.requires.small.0 c.requires.block c.requires.sized c.free_left-left.result c.free_right-right.result c.free_left-left.ensures.start c.free_left-left.ensures.tag c.free_right-right.ensures.head c.free_right-right.ensures.end in record { fits = omega (arith, w, l, c.ranges.end.fits) }

pub returns : goal.returns
returns c = around-is c.args.none (segments (region_words c.args.region.now) c.args.end) (region_words c.args.region.now) c.args.first c.args.end c.args.at c.args.size c.requires.lays c.requires.small.0 c.requires.block c.requires.sized c.free_left-left.result c.free_right-right.result c.free_left-left.ensures.start c.free_left-left.ensures.tag c.free_right-right.ensures.head c.free_right-right.ensures.end c.run_prev-prev.result c.run_next-next.result c.requires.apart
    c.run_prev-prev.ensures.joins_left c.run_prev-prev.ensures.joins_right c.run_prev-prev.ensures.alone
    c.run_next-next.ensures.joins_right c.run_next-next.ensures.joins_left c.run_next-next.ensures.starts c.run_next-next.ensures.steps
