use Rattle.std.proofs.Common.{rules, ◌≡◌, ◌<◌, ◌+◌, ◌-◌, ◌*◌, ◌^◌, ℕ, pos, refl, ap, sym, subst, ◌∙◌, arith, map, drop, get_or, ◌∷◌}
use Rattle.std.proofs.lemmas.List.Elements.{All-get_or}
use Rattle.f3_live_blocks.specs.Blocks.{Live, words_of, with_taken, with_words}
use Rattle.f3_desc.specs.Shape.{width, row, shape_at, Holder, Times}
use Rattle.f3_desc.specs.Layout.{shapes, shape_in, piece_count}
use Rattle.f3_objects.specs.Tree.{Repeats, Fits, blank}
use Rattle.f3_objects.specs.Holds.{with_words_at}
use Rattle.f3_objects.proofs.Trees.{size-fits}
use Rattle.f3_objects.proofs.Blanks.{blank-bare}
use Rattle.f3_objects_tests.specs.Grows.{Grows, dims_of}
use Rattle.f3_objects_tests.proofs.Growing.{Growing, grows_same, growing_none, growing_more, growing_element, grows_elements, growing_part, grows_parts, part_stands, part_bare, part_within, link_holds, grows_holder, after_take}
use Rattle.f3_objects_tests.proofs.growth.+grow.Goals as goal
use Rattle.f3_objects_tests.proofs.growth.+grow.Goals.{grow_allocatable-then-rank-eq0, grow_allocatable-else-rank-eq0}

pub grow_allocatable-returns-then-rank-gt1 : goal.grow_allocatable-returns-then-rank-gt1
grow_allocatable-returns-then-rank-gt1 g t c = λ x h b. grows_same (g.B.Blocks.blocks c.args.heap.now) c.args.block c.args.at (Holder c.args.rank (shape_in c.args.layout.now c.args.of)) x h

pub grow_allocatable-returns-in_default : goal.grow_allocatable-returns-in_default
grow_allocatable-returns-in_default g t c = λ x h b. grows_same (g.B.Blocks.blocks c.args.heap.now) c.args.block c.args.at (Holder c.args.rank (shape_in c.args.layout.now c.args.of)) x h

pub grow_allocatable-returns-in_default-take : goal.grow_allocatable-returns-in_default-take
grow_allocatable-returns-in_default-take g t c = λ x h b.
    let P : Live → Type 0 = λ m. Grows (g.B.Blocks.blocks c.args.heap.now) m c.args.block c.args.at (Holder c.args.rank (shape_in c.args.layout.now c.args.of)) x in
    let same : g.B.Blocks.blocks c.take.new.self ≡ g.B.Blocks.blocks c.args.heap.now = c.in_default-take.ensures.refused in
    subst P (sym same) (grows_same (g.B.Blocks.blocks c.args.heap.now) c.args.block c.args.at (Holder c.args.rank (shape_in c.args.layout.now c.args.of)) x h)

pub grow_allocatable-link-requires-clause-live : goal.grow_allocatable-link-requires-clause-live
grow_allocatable-link-requires-clause-live g t c =
    (after_take (g.B.Blocks.blocks c.args.heap.now) (g.B.Blocks.blocks c.take.new.self) c.args.block c.args.at c.in-Ok.inner c.in-Some.words c.args.rank (shape_in c.args.layout.now c.args.of) c.requires.holds.0 c.requires.holds.1 c.in-Ok.ensures.fresh c.in-Ok.ensures.taken).0

pub grow_allocatable-link-requires-clause-within :
    goal.grow_allocatable-link-requires-clause-within
grow_allocatable-link-requires-clause-within g t c =
    (after_take (g.B.Blocks.blocks c.args.heap.now) (g.B.Blocks.blocks c.take.new.self) c.args.block c.args.at c.in-Ok.inner c.in-Some.words c.args.rank (shape_in c.args.layout.now c.args.of) c.requires.holds.0 c.requires.holds.1 c.in-Ok.ensures.fresh c.in-Ok.ensures.taken).1

pub grow_allocatable-grow_elements-requires : goal.grow_allocatable-grow_elements-requires
grow_allocatable-grow_elements-requires g t c κs within =
    let s = shape_in c.args.layout.now c.args.of in
    let n = c.if-rank-eq0.count in
    let old = g.B.Blocks.blocks c.args.heap.now in
    let mid = g.B.Blocks.blocks c.link.new.heap in
    let low : c.args.rank < 2 = (let r = c.if-rank-gt1.false in omega arith) in
    let one : c.args.rank ≡ 0 → n ≡ 1 = (λ z. elim c.if-rank-eq0.branch [ grow_allocatable-then-rank-eq0 w ↦ w.count-is | grow_allocatable-else-rank-eq0 w ↦ absurd (w.if-rank-eq0.false z) ]) in
    let size : c.in-Some.words ≡ n * width s = c.in-Some.ensures.1 ∙ ap (λ (k : ℕ). n * k) c.words_of.ensures in
    let is : mid ≡ with_words (with_taken old c.in-Ok.inner c.in-Some.words) c.args.block (with_words_at (words_of (with_taken old c.in-Ok.inner c.in-Some.words) c.args.block) c.args.at (pos c.in-Ok.inner ∷ dims_of c.args.rank n)) = c.link.ensures.written ∙ ap (λ (m : Live). with_words m c.args.block (with_words_at (words_of m c.args.block) c.args.at (pos c.in-Ok.inner ∷ dims_of c.args.rank n))) c.in-Ok.ensures.taken in
    let h = c.requires.holds in
    let l = link_holds old mid c.args.block c.args.at c.in-Ok.inner c.args.rank n c.in-Some.words s h.0 h.1 h.2 c.in-Ok.ensures.fresh low one size c.link.ensures.positive is in
    let small : 0 + n * width s < 2 ^ 64 = omega (arith, c.in-Some.ensures.0, size, c.in-Some.ensures.1) in
    (search rules, (search rules, (c.requires.numbered, ((blank (Times n s), l.inside.holds, blank-bare (Times n s)), small))))

pub grow_allocatable-returns : goal.grow_allocatable-returns
grow_allocatable-returns g t c = λ x h b.
    let s = shape_in c.args.layout.now c.args.of in
    let n = c.if-rank-eq0.count in
    let old = g.B.Blocks.blocks c.args.heap.now in
    let mid = g.B.Blocks.blocks c.link.new.heap in
    let low : c.args.rank < 2 = (let r = c.if-rank-gt1.false in omega arith) in
    let one : c.args.rank ≡ 0 → n ≡ 1 = (λ z. elim c.if-rank-eq0.branch [ grow_allocatable-then-rank-eq0 w ↦ w.count-is | grow_allocatable-else-rank-eq0 w ↦ absurd (w.if-rank-eq0.false z) ]) in
    let size : c.in-Some.words ≡ n * width s = c.in-Some.ensures.1 ∙ ap (λ (k : ℕ). n * k) c.words_of.ensures in
    let is : mid ≡ with_words (with_taken old c.in-Ok.inner c.in-Some.words) c.args.block (with_words_at (words_of (with_taken old c.in-Ok.inner c.in-Some.words) c.args.block) c.args.at (pos c.in-Ok.inner ∷ dims_of c.args.rank n)) = c.link.ensures.written ∙ ap (λ (m : Live). with_words m c.args.block (with_words_at (words_of m c.args.block) c.args.at (pos c.in-Ok.inner ∷ dims_of c.args.rank n))) c.in-Ok.ensures.taken in
    let l = link_holds old mid c.args.block c.args.at c.in-Ok.inner c.args.rank n c.in-Some.words s x h b c.in-Ok.ensures.fresh low one size c.link.ensures.positive is in
    grows_holder old mid (g.B.Blocks.blocks c.grow_elements.new.heap) c.args.block c.args.at c.in-Ok.inner c.args.rank n s x h b low one l (c.grow_elements.ensures (blank (Times n s)) l.inside.holds (blank-bare (Times n s)))

pub grow_elements-loop-i-init : goal.grow_elements-loop-i-init
grow_elements-loop-i-init g t c = λ x h b.
    let s = shape_in c.args.layout.now c.args.of in
    let e : c.args.count ≡ c.args.count - 0 = omega arith in
    let P : ℕ → Type 0 = λ k. Growing (g.B.Blocks.blocks c.args.heap.now) (g.B.Blocks.blocks c.args.heap.now) c.args.block c.args.at c.args.at (Repeats k (Fits s)) (Fits (Times c.args.count s)) x in
    subst P e (growing_none (g.B.Blocks.blocks c.args.heap.now) c.args.block c.args.at (Times c.args.count s) x h)

pub grow_elements-grow_piece-requires : goal.grow_elements-grow_piece-requires
grow_elements-grow_piece-requires g t c κs within =
    let r = c.requires.holds in
    let s = shape_in c.args.layout.now c.args.of in
    let old = g.B.Blocks.blocks c.args.heap.now in
    let now = g.B.Blocks.blocks c.loop-i.heap in
    let rest = Repeats (c.args.count - (c.loop-i._i + 1)) (Fits s) in
    let all = Fits (Times c.args.count s) in
    let f = growing_element old now c.args.block c.args.at c.loop-i.place c.args.count c.loop-i._i (Fits s) all r.0 c.loop-i-test.true (c.loop-i.invariant r.0 r.1 r.2) in
    let size = size-fits (Times c.args.count s) r.0 r.1.fits in
    let bound = c.requires.bound in
    let n = part_within old now now c.args.block c.args.at c.loop-i.place s rest all r.0 r.1.stands r.2 f (width (s)) (2 ^ 64) refl (omega arith) in
    let st = part_stands old now now c.args.block c.args.at c.loop-i.place s rest all r.0 r.1.stands r.2 f in
    let bare = part_bare old now now c.args.block c.args.at c.loop-i.place s rest all r.0 r.1.stands r.2 f in
    (search rules, (search rules, (c.requires.numbered, ((f.has.front, record { stands = st; fits = f.has.first }, bare), n))))

pub grow_elements-overflow_add-place : goal.grow_elements-overflow_add-place
grow_elements-overflow_add-place g t c =
    let r = c.requires.holds in
    let s = shape_in c.args.layout.now c.args.of in
    let old = g.B.Blocks.blocks c.args.heap.now in
    let now = g.B.Blocks.blocks c.loop-i.heap in
    let rest = Repeats (c.args.count - (c.loop-i._i + 1)) (Fits s) in
    let all = Fits (Times c.args.count s) in
    let f = growing_element old now c.args.block c.args.at c.loop-i.place c.args.count c.loop-i._i (Fits s) all r.0 c.loop-i-test.true (c.loop-i.invariant r.0 r.1 r.2) in
    let size = size-fits (Times c.args.count s) r.0 r.1.fits in
    let bound = c.requires.bound in
    let n = part_within old now now c.args.block c.args.at c.loop-i.place s rest all r.0 r.1.stands r.2 f (width (s)) (2 ^ 64) refl (omega arith) in
    omega (arith, c.words_of-size.ensures)

pub grow_elements-loop-i-preserved : goal.grow_elements-loop-i-preserved
grow_elements-loop-i-preserved g t c = λ x h b.
    let s = shape_in c.args.layout.now c.args.of in
    let old = g.B.Blocks.blocks c.args.heap.now in
    let now = g.B.Blocks.blocks c.loop-i.heap in
    let rest = Repeats (c.args.count - (c.loop-i._i + 1)) (Fits s) in
    let all = Fits (Times c.args.count s) in
    let f = growing_element old now c.args.block c.args.at c.loop-i.place c.args.count c.loop-i._i (Fits s) all x c.loop-i-test.true (c.loop-i.invariant x h b) in
    let new = g.B.Blocks.blocks c.grow_piece.new.heap in
    let st = part_stands old now new c.args.block c.args.at c.loop-i.place s rest all x h.stands b f in
    let bare = part_bare old now new c.args.block c.args.at c.loop-i.place s rest all x h.stands b f in
    growing_more old now new c.args.block c.args.at c.loop-i.place s rest all x h.stands b f c.words_of-size.result c.words_of-size.ensures (c.grow_piece.ensures f.has.front (record { stands = st; fits = f.has.first }) bare)

pub grow_elements-returns : goal.grow_elements-returns
grow_elements-returns g t c = λ x h b.
    grows_elements (g.B.Blocks.blocks c.args.heap.now) (g.B.Blocks.blocks c.loop-i.heap) c.args.block c.args.at c.loop-i.place c.args.count c.loop-i._i (Fits (shape_in c.args.layout.now c.args.of)) (Times c.args.count (shape_in c.args.layout.now c.args.of)) x c.loop-i-test.false (c.loop-i.invariant x h b)

pub grow_parts-loop-part-init : goal.grow_parts-loop-part-init
grow_parts-loop-part-init g t c = λ x h b. growing_none (g.B.Blocks.blocks c.args.heap.now) c.args.block c.args.at (row (map (shape_at (shapes c.args.layout.now)) c.args.parts.now)) x h

pub grow_parts-grow_piece-requires : goal.grow_parts-grow_piece-requires
grow_parts-grow_piece-requires g t c κs within =
    let r = c.requires.holds in
    let ss = shapes c.args.layout.now in
    let k = get_or c.args.parts.now c.loop-part.part-index 0 in
    let s = shape_at ss k in
    let old = g.B.Blocks.blocks c.args.heap.now in
    let now = g.B.Blocks.blocks c.loop-part.heap in
    let rest = Fits (row (map (shape_at ss) (drop (c.loop-part.part-index + 1) c.args.parts.now))) in
    let all = Fits (row (map (shape_at ss) c.args.parts.now)) in
    let f = growing_part old now c.args.block c.args.at c.loop-part.place c.loop-part.part-index ss c.args.parts.now all r.0 c.loop-part-test.true (c.loop-part.invariant r.0 r.1 r.2) in
    let size = size-fits (row (map (shape_at ss) c.args.parts.now)) r.0 r.1.fits in
    let bound = c.requires.bound in
    let n = part_within old now now c.args.block c.args.at c.loop-part.place s rest all r.0 r.1.stands r.2 f (width (s)) (2 ^ 64) refl (omega arith) in
    let early : k < c.args.piece = All-get_or (λ p. p < c.args.piece) c.args.parts.now c.loop-part.part-index 0 c.loop-part-test.true c.requires.earlier in
    let below : k < piece_count c.args.layout.now = (let m = c.requires.numbered in omega arith) in
    let st = part_stands old now now c.args.block c.args.at c.loop-part.place s rest all r.0 r.1.stands r.2 f in
    let bare = part_bare old now now c.args.block c.args.at c.loop-part.place s rest all r.0 r.1.stands r.2 f in
    (search (rules, early), (search rules, (below, ((f.has.front, record { stands = st; fits = f.has.first }, bare), n))))

pub grow_parts-overflow_add-place : goal.grow_parts-overflow_add-place
grow_parts-overflow_add-place g t c =
    let r = c.requires.holds in
    let ss = shapes c.args.layout.now in
    let k = get_or c.args.parts.now c.loop-part.part-index 0 in
    let s = shape_at ss k in
    let old = g.B.Blocks.blocks c.args.heap.now in
    let now = g.B.Blocks.blocks c.loop-part.heap in
    let rest = Fits (row (map (shape_at ss) (drop (c.loop-part.part-index + 1) c.args.parts.now))) in
    let all = Fits (row (map (shape_at ss) c.args.parts.now)) in
    let f = growing_part old now c.args.block c.args.at c.loop-part.place c.loop-part.part-index ss c.args.parts.now all r.0 c.loop-part-test.true (c.loop-part.invariant r.0 r.1 r.2) in
    let size = size-fits (row (map (shape_at ss) c.args.parts.now)) r.0 r.1.fits in
    let bound = c.requires.bound in
    let n = part_within old now now c.args.block c.args.at c.loop-part.place s rest all r.0 r.1.stands r.2 f (width (s)) (2 ^ 64) refl (omega arith) in
    omega (arith, c.words_of-place.ensures)

pub grow_parts-loop-part-preserved : goal.grow_parts-loop-part-preserved
grow_parts-loop-part-preserved g t c = λ x h b.
    let ss = shapes c.args.layout.now in
    let k = get_or c.args.parts.now c.loop-part.part-index 0 in
    let s = shape_at ss k in
    let old = g.B.Blocks.blocks c.args.heap.now in
    let now = g.B.Blocks.blocks c.loop-part.heap in
    let rest = Fits (row (map (shape_at ss) (drop (c.loop-part.part-index + 1) c.args.parts.now))) in
    let all = Fits (row (map (shape_at ss) c.args.parts.now)) in
    let f = growing_part old now c.args.block c.args.at c.loop-part.place c.loop-part.part-index ss c.args.parts.now all x c.loop-part-test.true (c.loop-part.invariant x h b) in
    let new = g.B.Blocks.blocks c.grow_piece.new.heap in
    let st = part_stands old now new c.args.block c.args.at c.loop-part.place s rest all x h.stands b f in
    let bare = part_bare old now new c.args.block c.args.at c.loop-part.place s rest all x h.stands b f in
    growing_more old now new c.args.block c.args.at c.loop-part.place s rest all x h.stands b f c.words_of-place.result c.words_of-place.ensures (c.grow_piece.ensures f.has.front (record { stands = st; fits = f.has.first }) bare)

pub grow_parts-returns : goal.grow_parts-returns
grow_parts-returns g t c = λ x h b.
    grows_parts (g.B.Blocks.blocks c.args.heap.now) (g.B.Blocks.blocks c.loop-part.heap) c.args.block c.args.at c.loop-part.place c.loop-part.part-index (shapes c.args.layout.now) c.args.parts.now (row (map (shape_at (shapes c.args.layout.now)) c.args.parts.now)) x c.loop-part-test.false (c.loop-part.invariant x h b)

pub grow_piece-returns-in-Word : goal.grow_piece-returns-in-Word
grow_piece-returns-in-Word g t c = λ x h b. grows_same (g.B.Blocks.blocks c.args.heap.now) c.args.block c.args.at (shape_in c.args.layout.now c.args.piece) x h
