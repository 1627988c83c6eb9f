use Rattle.std.proofs.Common.{rules, ◌≡◌, ◌<◌, ◌+◌, ◌-◌, ◌*◌, ◌/◌, ◌^◌, ℕ, true, false, refl, sym, subst, ◌∙◌, arith, map, drop, get_or}
use Rattle.std.proofs.lemmas.Result.{err_from_is_err_and}
use Rattle.std.proofs.lemmas.List.Elements.{All-get_or}
use Rattle.f3_live_blocks.specs.Blocks.{pins_of}
use Rattle.f3_desc.specs.Shape.{width, row, shape_at, has_holder, Times}
use Rattle.f3_desc.specs.Layout.{shapes, shape_in, piece_count}
use Rattle.f3_objects.specs.Tree.{elements, Repeats, Fits}
use Rattle.f3_objects.specs.Holds.{Holds, Frees}
use Rattle.f3_objects.proofs.Trees.{size-fits, holder-positive}
use Rattle.f3_objects.proofs.Holders.{allocation, frees_none, frees_pinned, frees_stuck, frees_holder, holder_gone, holder_within}
use Rattle.f3_objects.proofs.Freeing.{freed_none, freed_element, freed_elements, freed_part, freed_parts, freed_more, freed_stop, freed_within, first_part, frees_plain, frees_plain_contents, contents_length, count_is, unpinned_after}
use Rattle.f3_objects.proofs.free.+free.Goals as goal

pub free_allocatable-returns-in_default-clause-freed :
    goal.free_allocatable-returns-in_default-clause-freed
free_allocatable-returns-in_default-clause-freed g t c = λ x h.
    let s = shape_in c.args.layout.now c.args.of in
    frees_none (g.B.Blocks.blocks c.args.heap.now) c.args.block c.args.at c.args.rank s x h (sym (c.block_at.ensures c.args.rank s x h) ∙ c.in_default.is)

pub free_allocatable-returns-then-pins-gt0-clause-freed :
    goal.free_allocatable-returns-then-pins-gt0-clause-freed
free_allocatable-returns-then-pins-gt0-clause-freed g t c = λ x h.
    let s = shape_in c.args.layout.now c.args.of in
    let some = sym (c.block_at.ensures c.args.rank s x h) ∙ c.in-Some.is in
    let pinned : 0 < pins_of (g.B.Blocks.blocks c.args.heap.now) c.in-Some.inner = omega (arith, c.pins.ensures) in
    frees_pinned (g.B.Blocks.blocks c.args.heap.now) c.args.block c.args.at c.args.rank s c.in-Some.inner x h some pinned

pub free_allocatable-free_inner-requires : goal.free_allocatable-free_inner-requires
free_allocatable-free_inner-requires g t c κs within =
    let s = shape_in c.args.layout.now c.args.of in
    let h = c.requires.holds in
    let a = allocation (g.B.Blocks.blocks c.args.heap.now) c.args.block c.args.at c.args.rank s c.in-Some.inner h.0 h.1 (sym (c.block_at.ensures c.args.rank s h.0 h.1) ∙ c.in-Some.is) in
    (search rules, (search rules, (c.requires.numbered, (elements a.dims, a.contents, a.inside))))

pub free_allocatable-returns-in_err-free_inner-clause-freed :
    goal.free_allocatable-returns-in_err-free_inner-clause-freed
free_allocatable-returns-in_err-free_inner-clause-freed g t c = λ x h.
    let s = shape_in c.args.layout.now c.args.of in
    let a = allocation (g.B.Blocks.blocks c.args.heap.now) c.args.block c.args.at c.args.rank s c.in-Some.inner x h (sym (c.block_at.ensures c.args.rank s x h) ∙ c.in-Some.is) in
    let w = err_from_is_err_and c.from_residual.result c.from_residual.ensures.1 in
    let f : Frees (g.B.Blocks.blocks c.args.heap.now) (g.B.Blocks.blocks c.free_inner.new.heap) c.in-Some.inner 0 a.contents false = c.in_err-free_inner.ensures.freed (elements a.dims) a.contents a.inside in
    let z : pins_of (g.B.Blocks.blocks c.args.heap.now) c.in-Some.inner ≡ 0 = omega (arith, c.pins.ensures) in
    rw (w.1) (frees_stuck (g.B.Blocks.blocks c.args.heap.now) (g.B.Blocks.blocks c.free_inner.new.heap) c.args.block c.args.at c.in-Some.inner s x h.stands a z f)

pub free_allocatable-give-requires : goal.free_allocatable-give-requires
free_allocatable-give-requires g t c =
    let s = shape_in c.args.layout.now c.args.of in
    let h = c.requires.holds in
    let a = allocation (g.B.Blocks.blocks c.args.heap.now) c.args.block c.args.at c.args.rank s c.in-Some.inner h.0 h.1 (sym (c.block_at.ensures c.args.rank s h.0 h.1) ∙ c.in-Some.is) in
    (c.in_ok-free_inner.ensures.freed (elements a.dims) a.contents a.inside).replaced.live

pub free_allocatable-returns-in_err-give-clause-freed :
    goal.free_allocatable-returns-in_err-give-clause-freed
free_allocatable-returns-in_err-give-clause-freed g t c = λ x h.
    let s = shape_in c.args.layout.now c.args.of in
    let a = allocation (g.B.Blocks.blocks c.args.heap.now) c.args.block c.args.at c.args.rank s c.in-Some.inner x h (sym (c.block_at.ensures c.args.rank s x h) ∙ c.in-Some.is) in
    let z : pins_of (g.B.Blocks.blocks c.args.heap.now) c.in-Some.inner ≡ 0 = omega (arith, c.pins.ensures) in
    let k = unpinned_after (g.B.Blocks.blocks c.args.heap.now) (g.B.Blocks.blocks c.free_inner.new.heap) c.in-Some.inner a.contents true (c.in_ok-free_inner.ensures.freed (elements a.dims) a.contents a.inside) z in
    let e = c.in_err-give.ensures.unpinned.1 k in
    cc

pub free_allocatable-write-requires-clause-live : goal.free_allocatable-write-requires-clause-live
free_allocatable-write-requires-clause-live g t c =
    let s = shape_in c.args.layout.now c.args.of in
    let h = c.requires.holds in
    let a = allocation (g.B.Blocks.blocks c.args.heap.now) c.args.block c.args.at c.args.rank s c.in-Some.inner h.0 h.1 (sym (c.block_at.ensures c.args.rank s h.0 h.1) ∙ c.in-Some.is) in
    (holder_gone (g.B.Blocks.blocks c.args.heap.now) (g.B.Blocks.blocks c.free_inner.new.heap) (g.B.Blocks.blocks c.give.new.self) c.args.block c.args.at c.in-Some.inner s h.0 true h.1.stands a (c.in_ok-free_inner.ensures.freed (elements a.dims) a.contents a.inside) c.in_ok-give.ensures.given).0

pub free_allocatable-write-requires-clause-within :
    goal.free_allocatable-write-requires-clause-within
free_allocatable-write-requires-clause-within g t c =
    let s = shape_in c.args.layout.now c.args.of in
    let h = c.requires.holds in
    let a = allocation (g.B.Blocks.blocks c.args.heap.now) c.args.block c.args.at c.args.rank s c.in-Some.inner h.0 h.1 (sym (c.block_at.ensures c.args.rank s h.0 h.1) ∙ c.in-Some.is) in
    let e = (holder_gone (g.B.Blocks.blocks c.args.heap.now) (g.B.Blocks.blocks c.free_inner.new.heap) (g.B.Blocks.blocks c.give.new.self) c.args.block c.args.at c.in-Some.inner s h.0 true h.1.stands a (c.in_ok-free_inner.ensures.freed (elements a.dims) a.contents a.inside) c.in_ok-give.ensures.given).1 in
    let w = holder_within (g.B.Blocks.blocks c.args.heap.now) c.args.block c.args.at c.args.rank s h.0 h.1 in
    rw e w

pub free_allocatable-returns-clause-freed : goal.free_allocatable-returns-clause-freed
free_allocatable-returns-clause-freed g t c = λ x h.
    let s = shape_in c.args.layout.now c.args.of in
    let a = allocation (g.B.Blocks.blocks c.args.heap.now) c.args.block c.args.at c.args.rank s c.in-Some.inner x h (sym (c.block_at.ensures c.args.rank s x h) ∙ c.in-Some.is) in
    let z : pins_of (g.B.Blocks.blocks c.args.heap.now) c.in-Some.inner ≡ 0 = omega (arith, c.pins.ensures) in
    frees_holder (g.B.Blocks.blocks c.args.heap.now) (g.B.Blocks.blocks c.free_inner.new.heap) (g.B.Blocks.blocks c.give.new.self) (g.B.Blocks.blocks c.write.new.self) c.args.block c.args.at c.in-Some.inner s x h.stands a z (c.in_ok-free_inner.ensures.freed (elements a.dims) a.contents a.inside) c.in_ok-give.ensures.given c.write.ensures.written

pub free_inner-returns-then-not-holds_allocatable-clause-freed :
    goal.free_inner-returns-then-not-holds_allocatable-clause-freed
free_inner-returns-then-not-holds_allocatable-clause-freed g t c = λ n x h.
    let e : has_holder (shape_in c.args.layout.now c.args.of) ≡ false = cc in
    frees_plain_contents (g.B.Blocks.blocks c.args.heap.now) c.args.block (shape_in c.args.layout.now c.args.of) n x e h

pub free_inner-nonzero_div-count : goal.free_inner-nonzero_div-count
free_inner-nonzero_div-count g t c =
    let e : has_holder (shape_in c.args.layout.now c.args.of) ≡ true = cc in
    let p = holder-positive (shape_in c.args.layout.now c.args.of) e in
    omega (arith, c.words_of.ensures)

pub free_inner-free_repeats-requires : goal.free_inner-free_repeats-requires
free_inner-free_repeats-requires g t c κs within =
    let s = shape_in c.args.layout.now c.args.of in
    let m = g.B.Blocks.blocks c.args.heap.now in
    let e : has_holder s ≡ true = cc in
    let h = c.requires.holds in
    let n : c.length.result / c.words_of.result ≡ h.0 = count_is c.length.result c.words_of.result m c.args.block s h.0 h.1 (holder-positive s e) c.length.ensures c.words_of.ensures h.2 in
    let l = contents_length m c.args.block s h.0 h.1 h.2 in
    let P : ℕ → Type 0 = λ k. Holds m c.args.block 0 (Times k s) h.1 in
    let small : h.0 * width s < 2 ^ 64 = omega (arith, c.length.ensures, c.length.type_inv) in
    let Q : ℕ → Type 0 = λ k. 0 + k * width s < 2 ^ 64 in
    (search rules, (search rules, (c.requires.numbered, ((h.1, subst P (sym n) h.2.holds), subst Q (sym n) (omega arith)))))

pub free_inner-returns-clause-freed : goal.free_inner-returns-clause-freed
free_inner-returns-clause-freed g t c = λ n x h.
    let s = shape_in c.args.layout.now c.args.of in
    let m = g.B.Blocks.blocks c.args.heap.now in
    let e : has_holder s ≡ true = cc in
    let k : c.length.result / c.words_of.result ≡ n = count_is c.length.result c.words_of.result m c.args.block s n x (holder-positive s e) c.length.ensures c.words_of.ensures h in
    let P : ℕ → Type 0 = λ k. Holds m c.args.block 0 (Times k s) x in
    c.free_repeats.ensures.freed x (subst P (sym k) h.holds)

pub free_repeats-free_piece-requires : goal.free_repeats-free_piece-requires
free_repeats-free_piece-requires g t c κs within =
    let s = shape_in c.args.layout.now c.args.of in
    let old = g.B.Blocks.blocks c.args.heap.now in
    let now = g.B.Blocks.blocks c.loop-i.heap in
    let h = c.requires.holds in
    let f = freed_element old now c.args.block c.args.at c.loop-i.place c.args.count c.loop-i._i (Fits s) h.0 c.loop-i-test.true (c.loop-i.invariant.freed h.0 h.1) in
    let st = first_part old now now c.args.block c.args.at c.loop-i.place (Fits s) (Repeats (c.args.count - (c.loop-i._i + 1)) (Fits s)) h.0 h.1.stands f in
    let size = size-fits (Times c.args.count s) h.0 h.1.fits in
    let bound = c.requires.bound in
    let n = freed_within old now c.args.block c.args.at c.loop-i.place (Fits s) (Repeats (c.args.count - (c.loop-i._i + 1)) (Fits s)) h.0 f (width s) (2 ^ 64) (size-fits s f.has.front f.has.first) (omega arith) in
    (search rules, (search rules, (c.requires.numbered, ((f.has.front, record { stands = st; fits = f.has.first }), n))))

pub free_repeats-returns-in_err-free_piece-clause-freed :
    goal.free_repeats-returns-in_err-free_piece-clause-freed
free_repeats-returns-in_err-free_piece-clause-freed g t c = λ x h.
    let s = shape_in c.args.layout.now c.args.of in
    let old = g.B.Blocks.blocks c.args.heap.now in
    let now = g.B.Blocks.blocks c.loop-i.heap in
    let new = g.B.Blocks.blocks c.free_piece.new.heap in
    let f = freed_element old now c.args.block c.args.at c.loop-i.place c.args.count c.loop-i._i (Fits s) x c.loop-i-test.true (c.loop-i.invariant.freed x h) in
    let st = first_part old now new c.args.block c.args.at c.loop-i.place (Fits s) (Repeats (c.args.count - (c.loop-i._i + 1)) (Fits s)) x h.stands f in
    let w = err_from_is_err_and c.from_residual.result c.from_residual.ensures.1 in
    rw (w.1) (freed_stop old now new c.args.block c.args.at c.loop-i.place (Fits s) (Repeats (c.args.count - (c.loop-i._i + 1)) (Fits s)) x h.stands f (c.in_err-free_piece.ensures.freed f.has.front (record { stands = st; fits = f.has.first })))

pub free_repeats-overflow_add-place : goal.free_repeats-overflow_add-place
free_repeats-overflow_add-place g t c =
    let s = shape_in c.args.layout.now c.args.of in
    let old = g.B.Blocks.blocks c.args.heap.now in
    let now = g.B.Blocks.blocks c.loop-i.heap in
    let h = c.requires.holds in
    let f = freed_element old now c.args.block c.args.at c.loop-i.place c.args.count c.loop-i._i (Fits s) h.0 c.loop-i-test.true (c.loop-i.invariant.freed h.0 h.1) in
    let size = size-fits (Times c.args.count s) h.0 h.1.fits in
    let bound = c.requires.bound in
    let n = freed_within old now c.args.block c.args.at c.loop-i.place (Fits s) (Repeats (c.args.count - (c.loop-i._i + 1)) (Fits s)) h.0 f (width s) (2 ^ 64) (size-fits s f.has.front f.has.first) (omega arith) in
    omega (arith, c.words_of-size.ensures)

pub free_repeats-loop-i-init : goal.free_repeats-loop-i-init
free_repeats-loop-i-init g t c = record {
  freed = λ x h. freed_none (g.B.Blocks.blocks c.args.heap.now) c.args.block c.args.at (Repeats (c.args.count - 0) (Fits (shape_in c.args.layout.now c.args.of))) x h.stands (let e : c.args.count ≡ c.args.count - 0 = omega arith in let P : ℕ → Type 0 = λ k. Repeats k (Fits (shape_in c.args.layout.now c.args.of)) x in subst P e h.fits);
  kept = refl;
}

pub free_repeats-loop-i-preserved : goal.free_repeats-loop-i-preserved
free_repeats-loop-i-preserved g t c =
    let s = shape_in c.args.layout.now c.args.of in
    let old = g.B.Blocks.blocks c.args.heap.now in
    let now = g.B.Blocks.blocks c.loop-i.heap in
    let new = g.B.Blocks.blocks c.free_piece.new.heap in
    record {
      freed = λ x h.
          let f = freed_element old now c.args.block c.args.at c.loop-i.place c.args.count c.loop-i._i (Fits s) x c.loop-i-test.true (c.loop-i.invariant.freed x h) in
          let st = first_part old now new c.args.block c.args.at c.loop-i.place (Fits s) (Repeats (c.args.count - (c.loop-i._i + 1)) (Fits s)) x h.stands f in
          let more = freed_more old now new c.args.block c.args.at c.loop-i.place (Fits s) (Repeats (c.args.count - (c.loop-i._i + 1)) (Fits s)) x h.stands f c.words_of-size.result (size-fits s f.has.front f.has.first ∙ sym c.words_of-size.ensures) (c.in_ok-free_piece.ensures.freed f.has.front (record { stands = st; fits = f.has.first })) in
          more;
      kept = c.free_piece.ensures.kept ∙ c.loop-i.invariant.kept;
    }

pub free_repeats-returns-clause-freed : goal.free_repeats-returns-clause-freed
free_repeats-returns-clause-freed g t c = λ x h.
    freed_elements (g.B.Blocks.blocks c.args.heap.now) (g.B.Blocks.blocks c.loop-i.heap) c.args.block c.args.at c.loop-i.place c.args.count c.loop-i._i (Fits (shape_in c.args.layout.now c.args.of)) x c.loop-i-test.false (c.loop-i.invariant.freed x h)

pub free_repeats-returns-clause-kept : goal.free_repeats-returns-clause-kept
free_repeats-returns-clause-kept g t c = c.loop-i.invariant.kept

pub free_repeats-returns-in_err-free_piece-clause-kept :
    goal.free_repeats-returns-in_err-free_piece-clause-kept
free_repeats-returns-in_err-free_piece-clause-kept g t c = c.free_piece.ensures.kept ∙ c.loop-i.invariant.kept

pub free_parts-free_piece-requires : goal.free_parts-free_piece-requires
free_parts-free_piece-requires g t c κs within =
    let ss = shapes c.args.layout.now in
    let k = get_or c.args.parts.now c.loop-part.part-index 0 in
    let rest = row (map (shape_at ss) (drop (c.loop-part.part-index + 1) c.args.parts.now)) in
    let old = g.B.Blocks.blocks c.args.heap.now in
    let now = g.B.Blocks.blocks c.loop-part.heap in
    let h = c.requires.holds in
    let early : k < c.args.piece = All-get_or (λ p. p < c.args.piece) c.args.parts.now c.loop-part.part-index 0 c.loop-part-test.true c.requires.earlier in
    let below : k < piece_count c.args.layout.now = (let n = c.requires.numbered in omega arith) in
    let f = freed_part old now c.args.block c.args.at c.loop-part.place c.loop-part.part-index ss c.args.parts.now h.0 c.loop-part-test.true (c.loop-part.invariant.freed h.0 h.1) in
    let st = first_part old now now c.args.block c.args.at c.loop-part.place (Fits (shape_at ss k)) (Fits rest) h.0 h.1.stands f in
    let size = size-fits (row (map (shape_at ss) c.args.parts.now)) h.0 h.1.fits in
    let bound = c.requires.bound in
    let n = freed_within old now c.args.block c.args.at c.loop-part.place (Fits (shape_at ss k)) (Fits rest) h.0 f (width (shape_at ss k)) (2 ^ 64) (size-fits (shape_at ss k) f.has.front f.has.first) (omega arith) in
    (search (rules, early), (search rules, (below, ((f.has.front, record { stands = st; fits = f.has.first }), n))))

pub free_parts-returns-in_err-free_piece-clause-freed :
    goal.free_parts-returns-in_err-free_piece-clause-freed
free_parts-returns-in_err-free_piece-clause-freed g t c = λ x h.
    let ss = shapes c.args.layout.now in
    let k = get_or c.args.parts.now c.loop-part.part-index 0 in
    let rest = row (map (shape_at ss) (drop (c.loop-part.part-index + 1) c.args.parts.now)) in
    let old = g.B.Blocks.blocks c.args.heap.now in
    let now = g.B.Blocks.blocks c.loop-part.heap in
    let new = g.B.Blocks.blocks c.free_piece.new.heap in
    let f = freed_part old now c.args.block c.args.at c.loop-part.place c.loop-part.part-index ss c.args.parts.now x c.loop-part-test.true (c.loop-part.invariant.freed x h) in
    let st = first_part old now new c.args.block c.args.at c.loop-part.place (Fits (shape_at ss k)) (Fits rest) x h.stands f in
    let w = err_from_is_err_and c.from_residual.result c.from_residual.ensures.1 in
    rw (w.1) (freed_stop old now new c.args.block c.args.at c.loop-part.place (Fits (shape_at ss k)) (Fits rest) x h.stands f (c.in_err-free_piece.ensures.freed f.has.front (record { stands = st; fits = f.has.first })))

pub free_parts-returns-in_err-free_piece-clause-kept :
    goal.free_parts-returns-in_err-free_piece-clause-kept
free_parts-returns-in_err-free_piece-clause-kept g t c = c.free_piece.ensures.kept ∙ c.loop-part.invariant.kept

pub free_parts-overflow_add-place : goal.free_parts-overflow_add-place
free_parts-overflow_add-place g t c =
    let ss = shapes c.args.layout.now in
    let k = get_or c.args.parts.now c.loop-part.part-index 0 in
    let rest = row (map (shape_at ss) (drop (c.loop-part.part-index + 1) c.args.parts.now)) in
    let old = g.B.Blocks.blocks c.args.heap.now in
    let now = g.B.Blocks.blocks c.loop-part.heap in
    let h = c.requires.holds in
    let f = freed_part old now c.args.block c.args.at c.loop-part.place c.loop-part.part-index ss c.args.parts.now h.0 c.loop-part-test.true (c.loop-part.invariant.freed h.0 h.1) in
    let size = size-fits (row (map (shape_at ss) c.args.parts.now)) h.0 h.1.fits in
    let bound = c.requires.bound in
    let n = freed_within old now c.args.block c.args.at c.loop-part.place (Fits (shape_at ss k)) (Fits rest) h.0 f (width (shape_at ss k)) (2 ^ 64) (size-fits (shape_at ss k) f.has.front f.has.first) (omega arith) in
    omega (arith, c.words_of-place.ensures)

pub free_parts-loop-part-init : goal.free_parts-loop-part-init
free_parts-loop-part-init g t c = record {
  freed = λ x h. freed_none (g.B.Blocks.blocks c.args.heap.now) c.args.block c.args.at (Fits (row (map (shape_at (shapes c.args.layout.now)) c.args.parts.now))) x h.stands h.fits;
  kept = refl;
}

pub free_parts-loop-part-preserved : goal.free_parts-loop-part-preserved
free_parts-loop-part-preserved g t c =
    let ss = shapes c.args.layout.now in
    let k = get_or c.args.parts.now c.loop-part.part-index 0 in
    let rest = row (map (shape_at ss) (drop (c.loop-part.part-index + 1) c.args.parts.now)) in
    let old = g.B.Blocks.blocks c.args.heap.now in
    let now = g.B.Blocks.blocks c.loop-part.heap in
    let new = g.B.Blocks.blocks c.free_piece.new.heap in
    record {
      freed = λ x h.
          let f = freed_part old now c.args.block c.args.at c.loop-part.place c.loop-part.part-index ss c.args.parts.now x c.loop-part-test.true (c.loop-part.invariant.freed x h) in
          let st = first_part old now new c.args.block c.args.at c.loop-part.place (Fits (shape_at ss k)) (Fits rest) x h.stands f in
          freed_more old now new c.args.block c.args.at c.loop-part.place (Fits (shape_at ss k)) (Fits rest) x h.stands f c.words_of-place.result (size-fits (shape_at ss k) f.has.front f.has.first ∙ sym c.words_of-place.ensures) (c.in_ok-free_piece.ensures.freed f.has.front (record { stands = st; fits = f.has.first }));
      kept = c.free_piece.ensures.kept ∙ c.loop-part.invariant.kept;
    }

pub free_parts-returns-clause-freed : goal.free_parts-returns-clause-freed
free_parts-returns-clause-freed g t c = λ x h.
    freed_parts (g.B.Blocks.blocks c.args.heap.now) (g.B.Blocks.blocks c.loop-part.heap) c.args.block c.args.at c.loop-part.place c.loop-part.part-index (shapes c.args.layout.now) c.args.parts.now x c.loop-part-test.false (c.loop-part.invariant.freed x h)

pub free_parts-returns-clause-kept : goal.free_parts-returns-clause-kept
free_parts-returns-clause-kept g t c = c.loop-part.invariant.kept

pub free_piece-returns-then-not-holds_allocatable-clause-freed :
    goal.free_piece-returns-then-not-holds_allocatable-clause-freed
free_piece-returns-then-not-holds_allocatable-clause-freed g t c = λ x h.
    let e : has_holder (shape_in c.args.layout.now c.args.piece) ≡ false = cc in
    frees_plain (g.B.Blocks.blocks c.args.heap.now) c.args.block c.args.at (shape_in c.args.layout.now c.args.piece) x e h
