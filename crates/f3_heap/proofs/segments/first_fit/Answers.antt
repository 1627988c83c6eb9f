-- The search along the list.
use Rattle.std.proofs.Common.{ℕ, sym, subst, arith}
use Rattle.f3_raw.specs.Region.{region_words}
use Rattle.f3_heap_laws.specs.Segments.{segments, Searches}
use Rattle.f3_heap_laws.proofs.BlockReads.{end-within, search-none, search-within, search-fits, search-next, search-later, search-bound}
use Rattle.f3_heap_laws.proofs.HintLaws.{hint-searches}
use Rattle.f3_heap.proofs.segments.first_fit.Goals as goal

pub loop-at-init : goal.loop-at-init
loop-at-init c = hint-searches c.args.none c.args.size c.args.from (segments (region_words c.args.region.now) c.args.end) c.requires.begins

pub free_size-requires : goal.free_size-requires
free_size-requires c =
    let ws = region_words c.args.region.now in let segs = segments ws c.args.end in
    let w = search-within c.args.none c.args.size segs ws c.requires.lays.0 c.args.end c.loop-at.at c.requires.lays.1 c.requires.small c.loop-at.invariant c.loop-at-test.true in
    omega (arith, w, end-within c.args.none segs ws c.requires.lays.0 c.args.end c.requires.lays.1)

pub returns-then-free_size-size-clause-fits : goal.returns-then-free_size-size-clause-fits
returns-then-free_size-size-clause-fits c = λ ne.
    let ws = region_words c.args.region.now in let segs = segments ws c.args.end in
    search-fits c.args.none c.args.size segs ws c.requires.lays.0 c.args.end c.loop-at.at c.requires.lays.1 c.requires.small c.loop-at.invariant c.loop-at-test.true
    (let e = c.free_size.ensures in omega (arith, e))

pub overflow_add-at : goal.overflow_add-at
overflow_add-at c =
    let ws = region_words c.args.region.now in let segs = segments ws c.args.end in
    let w = search-within c.args.none c.args.size segs ws c.requires.lays.0 c.args.end c.loop-at.at c.requires.lays.1 c.requires.small c.loop-at.invariant c.loop-at-test.true in
    record { fits = omega (arith, w, c.ranges.end.fits) }

pub link-at-requires : goal.link-at-requires
link-at-requires c =
    let ws = region_words c.args.region.now in let segs = segments ws c.args.end in
    let w = search-within c.args.none c.args.size segs ws c.requires.lays.0 c.args.end c.loop-at.at c.requires.lays.1 c.requires.small c.loop-at.invariant c.loop-at-test.true in
    omega (arith, w, end-within c.args.none segs ws c.requires.lays.0 c.args.end c.requires.lays.1)

pub loop-at-smaller : goal.loop-at-smaller
loop-at-smaller c =
    let ws = region_words c.args.region.now in let segs = segments ws c.args.end in
    let l = search-later c.args.none c.args.size segs ws c.requires.lays.0 c.args.end c.loop-at.at c.requires.lays.1 c.requires.small c.loop-at.invariant c.loop-at-test.true in
    let b = search-bound c.args.none c.args.size segs ws c.requires.lays.0 c.args.end c.loop-at.at c.requires.lays.1 c.requires.small c.loop-at.invariant c.loop-at-test.true in
    omega (arith, l, b, c.link-at.ensures)

pub loop-at-preserved : goal.loop-at-preserved
loop-at-preserved c =
    let ws = region_words c.args.region.now in let segs = segments ws c.args.end in
    subst (λ (k : ℕ). Searches c.args.none c.args.size segs k) (sym c.link-at.ensures)
    (search-next c.args.none c.args.size segs ws c.requires.lays.0 c.args.end c.loop-at.at c.requires.lays.1 c.requires.small c.loop-at.invariant c.loop-at-test.true
    (let e = c.free_size.ensures in omega (arith, e)))

pub returns-clause-lacking : goal.returns-clause-lacking
returns-clause-lacking c = λ _.
    let ws = region_words c.args.region.now in let segs = segments ws c.args.end in
    search-none c.args.none c.args.size segs ws c.requires.lays.0 c.args.end c.loop-at.at c.requires.lays.1 c.requires.small c.loop-at.invariant c.loop-at-test.false
