-- The walk along the list to the block.
use Rattle.std.proofs.Common.{◌≡◌, ◌∙◌, ◌++◌, ◌∷◌, ◌-◌, ℕ, ℤ, ◌<◌, ◌≤◌, List, length, refl, ap, sym, subst, arith}
use Rattle.f3_raw.specs.Region.{region_words}
use Rattle.f3_heap_laws.specs.Account.{r}
use Rattle.f3_heap_laws.specs.Placed.{extent}
use Rattle.f3_heap_laws.specs.Segments.{Segment, Used, seg_block, seg_size, segments, last_free, Lays, UsedAt, Walks}
use Rattle.f3_heap_laws.proofs.BlockReads.{end-within, used-within}
use Rattle.f3_heap_laws.proofs.Neighbours.{segments-before, walk-start, walk-end, walk-within, walk-next, walk-later, walk-some}
use Rattle.f3_heap_laws.proofs.StepLeft.{passed, found, some-left}
use Rattle.f3_heap.proofs.segments.free_before.Goals as goal

before_is : (none : ℕ) (ws : List ℤ) (first end at : ℕ) (h : Lays none (segments ws end) ws first end) (u : UsedAt (segments ws end) at) → segments ws at ≡ u.front
before_is none ws first end at h u = segments-before none (segments ws end) ws first end h u.front (Used u.content u.pins ∷ u.back) at u.split u.place

at_is : (none : ℕ) (ws : List ℤ) (first end at : ℕ) (h : Lays none (segments ws end) ws first end) (u : UsedAt (segments ws end) at) → at ≡ extent seg_block seg_size (segments ws at)
at_is none ws first end at h u = u.place ∙ ap (extent seg_block seg_size) (sym (before_is none ws first end at h u))

-- while a free block is to come on the way, something stands before the block that the way back has come to
here_some : (none : ℕ) (ws : List ℤ) (first end at here prev next : ℕ) (h : Lays none (segments ws end) ws first end) (fits : end ≤ none) (u : UsedAt (segments ws end) at) (w : Walks none at (segments ws end) (segments ws at) prev next) → next < at → (v : UsedAt (segments ws end) here) → last_free none 0 (segments ws here) ≡ last_free none 0 (segments ws at) → 0 < here
here_some none ws first end at here prev next h fits u w lt v same =
    some-left none (segments ws end) ws first end here h v
    (omega (arith, same, fits, walk-some none (segments ws end) ws first end at prev next h fits (segments ws at) (at_is none ws first end at h u) w lt, used-within none (segments ws end) ws first end h u.front u.content u.pins u.back at u.split u.place))

here_within : (none : ℕ) (ws : List ℤ) (first end here : ℕ) (h : Lays none (segments ws end) ws first end) (v : UsedAt (segments ws end) here) → here ≤ length ws
here_within none ws first end here h v = omega (arith, used-within none (segments ws end) ws first end h v.front v.content v.pins v.back here v.split v.place, end-within none (segments ws end) ws first end h)

pub loop-next-init : goal.loop-next-init
loop-next-init c =
    let ws = region_words c.args.region.now in let segs = segments ws c.args.end in let u = c.requires.block in (
      walk-start c.args.none segs ws c.args.first c.args.end c.args.at c.requires.lays (segments ws c.args.at) (Used u.content u.pins ∷ u.back)
          (u.split ∙ ap (λ (f : List Segment). f ++ Used u.content u.pins ∷ u.back) (sym (before_is c.args.none ws c.args.first c.args.end c.args.at c.requires.lays u)))
          (at_is c.args.none ws c.args.first c.args.end c.args.at c.requires.lays u),
      u,
      refl,
    )

pub link-next-requires : goal.link-next-requires
link-next-requires c =
    let ws = region_words c.args.region.now in let segs = segments ws c.args.end in
    let w = walk-within c.args.none segs ws c.args.first c.args.end c.args.at c.loop-next.prev c.loop-next.next c.requires.lays c.requires.small (segments ws c.args.at) (at_is c.args.none ws c.args.first c.args.end c.args.at c.requires.lays c.requires.block) c.loop-next.invariant.0 c.loop-next-test.true in
    omega (arith, w, end-within c.args.none segs ws c.args.first c.args.end c.requires.lays)

pub loop-next-smaller : goal.loop-next-smaller
loop-next-smaller c =
    let ws = region_words c.args.region.now in let segs = segments ws c.args.end in
    let l = walk-later c.args.none segs ws c.args.first c.args.end c.args.at c.loop-next.prev c.loop-next.next c.requires.lays c.requires.small (segments ws c.args.at) (at_is c.args.none ws c.args.first c.args.end c.args.at c.requires.lays c.requires.block) c.loop-next.invariant.0 c.loop-next-test.true in
    omega (arith, l, c.link-next.ensures, c.loop-next-test.true)

pub overflow_sub-here : goal.overflow_sub-here
overflow_sub-here c = here_some c.args.none (region_words c.args.region.now) c.args.first c.args.end c.args.at c.loop-next.here c.loop-next.prev c.loop-next.next c.requires.lays c.requires.small c.requires.block c.loop-next.invariant.0 c.loop-next-test.true c.loop-next.invariant.1 c.loop-next.invariant.2

pub free_size-free-requires : goal.free_size-free-requires
free_size-free-requires c = omega (arith, here_some c.args.none (region_words c.args.region.now) c.args.first c.args.end c.args.at c.loop-next.here c.loop-next.prev c.loop-next.next c.requires.lays c.requires.small c.requires.block c.loop-next.invariant.0 c.loop-next-test.true c.loop-next.invariant.1 c.loop-next.invariant.2, here_within c.args.none (region_words c.args.region.now) c.args.first c.args.end c.loop-next.here c.requires.lays c.loop-next.invariant.1)

pub overflow_sub-result : goal.overflow_sub-result
overflow_sub-result c =
    let f = found c.args.none (segments (region_words c.args.region.now) c.args.end) (region_words c.args.region.now) c.args.first c.args.end c.loop-next.here c.requires.lays c.requires.small c.loop-next.invariant.1 (here_some c.args.none (region_words c.args.region.now) c.args.first c.args.end c.args.at c.loop-next.here c.loop-next.prev c.loop-next.next c.requires.lays c.requires.small c.requires.block c.loop-next.invariant.0 c.loop-next-test.true c.loop-next.invariant.1 c.loop-next.invariant.2) (omega (arith, c.free_size-free.ensures, c.if-free-gt0.true)) in
    omega (arith, c.free_size-free.ensures, f.below)

pub returns-then-free-gt0 : goal.returns-then-free-gt0
returns-then-free-gt0 c =
    let f = found c.args.none (segments (region_words c.args.region.now) c.args.end) (region_words c.args.region.now) c.args.first c.args.end c.loop-next.here c.requires.lays c.requires.small c.loop-next.invariant.1 (here_some c.args.none (region_words c.args.region.now) c.args.first c.args.end c.args.at c.loop-next.here c.loop-next.prev c.loop-next.next c.requires.lays c.requires.small c.requires.block c.loop-next.invariant.0 c.loop-next-test.true c.loop-next.invariant.1 c.loop-next.invariant.2) (omega (arith, c.free_size-free.ensures, c.if-free-gt0.true)) in
    ap (λ (k : ℕ). c.loop-next.here - k) c.free_size-free.ensures ∙ sym f.last ∙ c.loop-next.invariant.2

pub overflow_sub-here-in-loop-next : goal.overflow_sub-here-in-loop-next
overflow_sub-here-in-loop-next c = here_some c.args.none (region_words c.args.region.now) c.args.first c.args.end c.args.at c.loop-next.here c.loop-next.prev c.loop-next.next c.requires.lays c.requires.small c.requires.block c.loop-next.invariant.0 c.loop-next-test.true c.loop-next.invariant.1 c.loop-next.invariant.2

pub link-requires : goal.link-requires
link-requires c = omega (arith, here_some c.args.none (region_words c.args.region.now) c.args.first c.args.end c.args.at c.loop-next.here c.loop-next.prev c.loop-next.next c.requires.lays c.requires.small c.requires.block c.loop-next.invariant.0 c.loop-next-test.true c.loop-next.invariant.1 c.loop-next.invariant.2, here_within c.args.none (region_words c.args.region.now) c.args.first c.args.end c.loop-next.here c.requires.lays c.loop-next.invariant.1)

pub size_of_block-here-requires : goal.size_of_block-here-requires
size_of_block-here-requires c =
    let p = passed c.args.none (segments (region_words c.args.region.now) c.args.end) (region_words c.args.region.now) c.args.first c.args.end c.loop-next.here c.requires.lays c.requires.small c.loop-next.invariant.1 (here_some c.args.none (region_words c.args.region.now) c.args.first c.args.end c.args.at c.loop-next.here c.loop-next.prev c.loop-next.next c.requires.lays c.requires.small c.requires.block c.loop-next.invariant.0 c.loop-next-test.true c.loop-next.invariant.1 c.loop-next.invariant.2) (omega (arith, c.free_size-free.ensures, c.if-free-gt0.false)) in
    omega (arith, ap r c.link.ensures, p.below, c.loop-next.auto.here-fits.fits)

pub overflow_sub-here-in-loop-next-2 : goal.overflow_sub-here-in-loop-next-2
overflow_sub-here-in-loop-next-2 c =
    let p = passed c.args.none (segments (region_words c.args.region.now) c.args.end) (region_words c.args.region.now) c.args.first c.args.end c.loop-next.here c.requires.lays c.requires.small c.loop-next.invariant.1 (here_some c.args.none (region_words c.args.region.now) c.args.first c.args.end c.args.at c.loop-next.here c.loop-next.prev c.loop-next.next c.requires.lays c.requires.small c.requires.block c.loop-next.invariant.0 c.loop-next-test.true c.loop-next.invariant.1 c.loop-next.invariant.2) (omega (arith, c.free_size-free.ensures, c.if-free-gt0.false)) in
    omega (arith, c.size_of_block-here.ensures, ap r c.link.ensures, p.below)

pub loop-next-preserved : goal.loop-next-preserved
loop-next-preserved c =
    let ws = region_words c.args.region.now in let segs = segments ws c.args.end in
    let p = passed c.args.none (segments (region_words c.args.region.now) c.args.end) (region_words c.args.region.now) c.args.first c.args.end c.loop-next.here c.requires.lays c.requires.small c.loop-next.invariant.1 (here_some c.args.none (region_words c.args.region.now) c.args.first c.args.end c.args.at c.loop-next.here c.loop-next.prev c.loop-next.next c.requires.lays c.requires.small c.requires.block c.loop-next.invariant.0 c.loop-next-test.true c.loop-next.invariant.1 c.loop-next.invariant.2) (omega (arith, c.free_size-free.ensures, c.if-free-gt0.false)) in
    let e = c.size_of_block-here.ensures ∙ ap r c.link.ensures in (
      subst (λ (k : ℕ). Walks c.args.none c.args.at segs (segments ws c.args.at) c.loop-next.next k) (sym c.link-next.ensures)
          (walk-next c.args.none segs ws c.args.first c.args.end c.args.at c.loop-next.prev c.loop-next.next c.requires.lays c.requires.small (segments ws c.args.at) (at_is c.args.none ws c.args.first c.args.end c.args.at c.requires.lays c.requires.block) c.loop-next.invariant.0 c.loop-next-test.true),
      subst (λ (k : ℕ). UsedAt segs (c.loop-next.here - k)) (sym e) p.block,
      subst (λ (k : ℕ). last_free c.args.none 0 (segments ws (c.loop-next.here - k)) ≡ last_free c.args.none 0 (segments ws c.args.at)) (sym e) (p.same ∙ c.loop-next.invariant.2),
    )

pub returns : goal.returns
returns c =
    let ws = region_words c.args.region.now in let segs = segments ws c.args.end in
    sym (walk-end c.args.none segs ws c.args.first c.args.end c.args.at c.loop-next.prev c.loop-next.next c.requires.lays c.requires.small (segments ws c.args.at) (at_is c.args.none ws c.args.first c.args.end c.args.at c.requires.lays c.requires.block) c.loop-next.invariant.0 c.loop-next-test.false)
