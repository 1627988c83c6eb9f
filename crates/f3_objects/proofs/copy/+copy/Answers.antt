use Rattle.std.proofs.Common.{rules, ◌≡◌, ◌<◌, ◌+◌, ◌-◌, ◌*◌, ◌/◌, ◌^◌, ℕ, true, false, List, [], ◌∷◌, refl, ap, sym, subst, ◌∙◌, arith, length, map, drop, get_or}
use Rattle.std.proofs.lemmas.Result.{err_from_is_err_and}
use Rattle.std.proofs.lemmas.List.Elements.{All-get_or}
use Rattle.f3_live_blocks.specs.Blocks.{words_of}
use Rattle.f3_desc.specs.Shape.{width, row, shape_at, has_holder, Holder, Times}
use Rattle.f3_desc.specs.Layout.{shapes, shape_in, piece_count}
use Rattle.f3_objects.specs.Tree.{elements, Repeats, Fits, blank}
use Rattle.f3_objects.specs.Copies.{Ready, Copies, faults}
use Rattle.f3_heap_laws.specs.Answers.{Taken, Take, Took}
use Rattle.f3_heap_laws.proofs.Answers.{took_none, took_then}
use Rattle.f3_objects.proofs.Trees.{size-fits, holder-positive}
use Rattle.f3_objects.proofs.Holders.{allocation}
use Rattle.f3_objects.proofs.Freeing.{times_plain}
use Rattle.f3_objects.proofs.Copying.{Copying, copying_none, copying_element, copied_elements, copying_part, copied_parts, copying_more, copying_within, part_ready, copies_plain, copies_stop}
use Rattle.f3_objects.proofs.Sharing.{copies_none, copies_unchanged, copies_shared, contents_ready, contents_same, contents_within, elements_count, linked_sizes, room_taken}
use Rattle.f3_objects.proofs.copy.+copy.Goals as goal

pub copy_allocatable-returns-in_default :
    goal.copy_allocatable-returns-in_default
copy_allocatable-returns-in_default g t c = λ x u r.
    let s = shape_in c.args.layout.now c.args.of in
    copies_none (g.B.Blocks.blocks c.args.heap.now) c.args.from c.args.from_at c.args.to c.args.to_at c.args.rank s x u (Took g.B.Blocks.allows g.B.Blocks.spent (g.B.Blocks.kept c.args.heap.now) (g.B.Blocks.kept c.args.heap.now) (g.B.Blocks.blocks c.args.heap.now) (g.B.Blocks.blocks c.args.heap.now)) r (sym (c.block_at.ensures c.args.rank s x r.source) ∙ c.in_default.is) (took_none g.B.Blocks.allows g.B.Blocks.spent (g.B.Blocks.kept c.args.heap.now) (g.B.Blocks.kept c.args.heap.now) (g.B.Blocks.blocks c.args.heap.now) (g.B.Blocks.blocks c.args.heap.now) refl refl)

pub copy_allocatable-returns-in_err-copy : goal.copy_allocatable-returns-in_err-copy
copy_allocatable-returns-in_err-copy g t c = λ x u r.
    let s = shape_in c.args.layout.now c.args.of in
    let old = g.B.Blocks.blocks c.args.heap.now in
    let a = allocation old c.args.from c.args.from_at c.args.rank s c.in-Some.inner x r.source (sym (c.block_at.ensures c.args.rank s x r.source) ∙ c.in-Some.is) in
    let w = err_from_is_err_and c.from_residual.result c.from_residual.ensures.1 in
    let X = (Took g.B.Blocks.allows g.B.Blocks.spent (g.B.Blocks.kept c.args.heap.now) (g.B.Blocks.kept c.take_same.new.heap) (g.B.Blocks.blocks c.args.heap.now) (g.B.Blocks.blocks c.take_same.new.heap)) in
    rw (w.1, w.2) (copies_unchanged old (g.B.Blocks.blocks c.take_same.new.heap) c.args.from c.args.from_at c.args.to c.args.to_at c.in-Some.inner _ s (Holder c.args.rank s) x u r a refl c.in_err-copy.ensures.refused _ X c.in_err-copy.ensures.took)

pub copy_allocatable-link_copy-requires : goal.copy_allocatable-link_copy-requires
copy_allocatable-link_copy-requires g t c =
    let s = shape_in c.args.layout.now c.args.of in
    let r = c.requires.ready in
    let old = g.B.Blocks.blocks c.args.heap.now in
    let now = g.B.Blocks.blocks c.take_same.new.heap in
    let k = room_taken old now c.args.from c.args.from_at c.args.to c.args.to_at c.args.rank s r.0 r.1 r.2 c.in_ok-copy.copy _ c.in_ok-copy.ensures.fresh c.in_ok-copy.ensures.taken in
    record { from_live = k.0; to_live = k.1; different = λ e. r.2.apart (sym e); from_within = k.2; to_within = k.3 }

pub copy_allocatable-copy_inner-requires : goal.copy_allocatable-copy_inner-requires
copy_allocatable-copy_inner-requires g t c κs within =
    let s = shape_in c.args.layout.now c.args.of in
    let r = c.requires.ready in
    let old = g.B.Blocks.blocks c.args.heap.now in
    let mid = g.B.Blocks.blocks c.take_same.new.heap in
    let now = g.B.Blocks.blocks c.link_copy.new.heap in
    let a = allocation old c.args.from c.args.from_at c.args.rank s c.in-Some.inner r.0 r.2.source (sym (c.block_at.ensures c.args.rank s r.0 r.2.source) ∙ c.in-Some.is) in
    let ready = contents_ready old mid now c.args.from c.args.from_at c.args.to c.args.to_at c.args.rank c.in-Some.inner c.in_ok-copy.copy s r.0 r.1 r.2 a c.link_copy.ensures.positive c.in_ok-copy.ensures.fresh c.in_ok-copy.ensures.taken c.link_copy.ensures.written in
    let same = contents_same old mid now c.args.from c.args.from_at c.args.to c.args.to_at c.args.rank c.in-Some.inner c.in_ok-copy.copy s r.0 r.1 r.2 a c.link_copy.ensures.positive c.in_ok-copy.ensures.fresh c.in_ok-copy.ensures.taken c.link_copy.ensures.written in
    (search rules, (search rules, (c.requires.numbered, (elements a.dims, a.contents, blank (Times (elements a.dims) s), ready, same))))

pub copy_allocatable-returns : goal.copy_allocatable-returns
copy_allocatable-returns g t c = λ x u r.
    let s = shape_in c.args.layout.now c.args.of in
    let old = g.B.Blocks.blocks c.args.heap.now in
    let mid = g.B.Blocks.blocks c.take_same.new.heap in
    let now = g.B.Blocks.blocks c.link_copy.new.heap in
    let a = allocation old c.args.from c.args.from_at c.args.rank s c.in-Some.inner x r.source (sym (c.block_at.ensures c.args.rank s x r.source) ∙ c.in-Some.is) in
    let ready = contents_ready old mid now c.args.from c.args.from_at c.args.to c.args.to_at c.args.rank c.in-Some.inner c.in_ok-copy.copy s x u r a c.link_copy.ensures.positive c.in_ok-copy.ensures.fresh c.in_ok-copy.ensures.taken c.link_copy.ensures.written in
    let same = contents_same old mid now c.args.from c.args.from_at c.args.to c.args.to_at c.args.rank c.in-Some.inner c.in_ok-copy.copy s x u r a c.link_copy.ensures.positive c.in_ok-copy.ensures.fresh c.in_ok-copy.ensures.taken c.link_copy.ensures.written in
    let one : (Took g.B.Blocks.allows g.B.Blocks.spent (g.B.Blocks.kept c.args.heap.now) (g.B.Blocks.kept c.take_same.new.heap) (g.B.Blocks.blocks c.args.heap.now) (g.B.Blocks.blocks c.take_same.new.heap)) (record { asked = length (words_of old c.in-Some.inner); answer = Taken c.in_ok-copy.copy } ∷ []) = c.in_ok-copy.ensures.took in
    let links = linked_sizes old mid now c.args.from c.args.from_at c.args.to c.args.to_at c.args.rank c.in-Some.inner c.in_ok-copy.copy s x u r a c.link_copy.ensures.positive c.in_ok-copy.ensures.fresh c.in_ok-copy.ensures.taken c.link_copy.ensures.written in
    let taken = (took_then g.B.Blocks.allows g.B.Blocks.spent (g.B.Blocks.kept c.args.heap.now) (g.B.Blocks.kept c.take_same.new.heap) (g.B.Blocks.kept c.link_copy.new.heap) (g.B.Blocks.blocks c.args.heap.now) (g.B.Blocks.blocks c.take_same.new.heap) (g.B.Blocks.blocks c.link_copy.new.heap)) (record { asked = length (words_of old c.in-Some.inner); answer = Taken c.in_ok-copy.copy } ∷ []) [] one (took_none g.B.Blocks.allows g.B.Blocks.spent (g.B.Blocks.kept c.take_same.new.heap) (g.B.Blocks.kept c.link_copy.new.heap) (g.B.Blocks.blocks c.take_same.new.heap) (g.B.Blocks.blocks c.link_copy.new.heap) c.link_copy.ensures.kept links) in
    copies_shared old mid now c.args.from c.args.from_at c.args.to c.args.to_at c.args.rank c.in-Some.inner c.in_ok-copy.copy s x u r a c.link_copy.ensures.positive c.in_ok-copy.ensures.fresh c.in_ok-copy.ensures.taken c.link_copy.ensures.written (g.B.Blocks.blocks c.copy_inner.new.heap) (faults c.copy_inner.result) (c.copy_inner.ensures (elements a.dims) a.contents (blank (Times (elements a.dims) s)) ready same) (Took g.B.Blocks.allows g.B.Blocks.spent (g.B.Blocks.kept c.args.heap.now) (g.B.Blocks.kept c.copy_inner.new.heap) (g.B.Blocks.blocks c.args.heap.now) (g.B.Blocks.blocks c.copy_inner.new.heap)) (λ ks v. (took_then g.B.Blocks.allows g.B.Blocks.spent (g.B.Blocks.kept c.args.heap.now) (g.B.Blocks.kept c.link_copy.new.heap) (g.B.Blocks.kept c.copy_inner.new.heap) (g.B.Blocks.blocks c.args.heap.now) (g.B.Blocks.blocks c.link_copy.new.heap) (g.B.Blocks.blocks c.copy_inner.new.heap)) (record { asked = length (words_of old c.in-Some.inner); answer = Taken c.in_ok-copy.copy } ∷ []) ks taken v)

pub copy_inner-copy_words-requires-clause-to_within :
    goal.copy_inner-copy_words-requires-clause-to_within
copy_inner-copy_words-requires-clause-to_within g t c =
    let s = shape_in c.args.layout.now c.args.of in
    let m = g.B.Blocks.blocks c.args.heap.now in
    let h = c.requires.ready in
    let len = c.length-length.ensures in
    let w = contents_within m c.args.from c.args.to (Times h.0 s) h.1 h.2 h.3 h.4 in
    omega arith

pub copy_inner-returns-then-not-holds_allocatable :
    goal.copy_inner-returns-then-not-holds_allocatable
copy_inner-returns-then-not-holds_allocatable g t c = λ n x u r same.
    let s = shape_in c.args.layout.now c.args.of in
    let e : has_holder s ≡ false = cc in
    let m = g.B.Blocks.blocks c.args.heap.now in
    let size : c.length-length.result ≡ width (Times n s) = c.length-length.ensures ∙ (ap length same ∙ size-fits (Times n s) x r.source.fits) in
    copies_plain m (g.B.Blocks.blocks c.copy_words.new.heap) c.args.from 0 c.args.to 0 c.length-length.result (Times n s) x u (Took g.B.Blocks.allows g.B.Blocks.spent (g.B.Blocks.kept c.args.heap.now) (g.B.Blocks.kept c.copy_words.new.heap) (g.B.Blocks.blocks c.args.heap.now) (g.B.Blocks.blocks c.copy_words.new.heap)) (times_plain n s e) size r c.copy_words.ensures.written (λ z. (took_none g.B.Blocks.allows g.B.Blocks.spent (g.B.Blocks.kept c.args.heap.now) (g.B.Blocks.kept c.copy_words.new.heap) (g.B.Blocks.blocks c.args.heap.now) (g.B.Blocks.blocks c.copy_words.new.heap) c.copy_words.ensures.kept z))

pub copy_inner-nonzero_div-count : goal.copy_inner-nonzero_div-count
copy_inner-nonzero_div-count g t c =
    let e : has_holder (shape_in c.args.layout.now c.args.of) ≡ true = cc in
    let p = holder-positive (shape_in c.args.layout.now c.args.of) e in
    omega (arith, c.words_of.ensures)

pub copy_inner-copy_repeats-requires : goal.copy_inner-copy_repeats-requires
copy_inner-copy_repeats-requires g t c κs within =
    let s = shape_in c.args.layout.now c.args.of in
    let m = g.B.Blocks.blocks c.args.heap.now in
    let e : has_holder s ≡ true = cc in
    let h = c.requires.ready in
    let n : c.length-length.result / c.words_of.result ≡ h.0 = elements_count c.length-length.result c.words_of.result m c.args.from 0 c.args.to 0 s h.0 h.1 h.2 (holder-positive s e) c.length-length.ensures c.words_of.ensures h.3 h.4 in
    let l : length (words_of m c.args.from) ≡ h.0 * width s = ap length h.4 ∙ size-fits (Times h.0 s) h.1 h.3.source.fits in
    let P : ℕ → Type 0 = λ k. Ready m c.args.from 0 c.args.to 0 (Times k s) h.1 h.2 in
    let small : h.0 * width s < 2 ^ 64 = omega (arith, c.length-length.ensures, c.length-length.type_inv) in
    let Q : ℕ → Type 0 = λ k. 0 + k * width s < 2 ^ 64 in
    (search rules, (search rules, (c.requires.numbered, ((h.1, h.2, subst P (sym n) h.3), (subst Q (sym n) (omega arith), subst Q (sym n) (omega arith))))))

pub copy_inner-returns : goal.copy_inner-returns
copy_inner-returns g t c = λ n x u r same.
    let s = shape_in c.args.layout.now c.args.of in
    let m = g.B.Blocks.blocks c.args.heap.now in
    let new = g.B.Blocks.blocks c.copy_repeats.new.heap in
    let e : has_holder s ≡ true = cc in
    let k : c.length-length.result / c.words_of.result ≡ n = elements_count c.length-length.result c.words_of.result m c.args.from 0 c.args.to 0 s n x u (holder-positive s e) c.length-length.ensures c.words_of.ensures r same in
    let P : ℕ → Type 0 = λ k. Ready m c.args.from 0 c.args.to 0 (Times k s) x u in
    let Q : ℕ → Type 0 = λ k. Copies m new c.args.to 0 (Times k s) x u (faults c.copy_repeats.result) (Took g.B.Blocks.allows g.B.Blocks.spent (g.B.Blocks.kept c.args.heap.now) (g.B.Blocks.kept c.copy_repeats.new.heap) (g.B.Blocks.blocks c.args.heap.now) (g.B.Blocks.blocks c.copy_repeats.new.heap)) in
    subst Q k (c.copy_repeats.ensures x u (subst P (sym k) r))

pub copy_repeats-loop-i-init : goal.copy_repeats-loop-i-init
copy_repeats-loop-i-init g t c = record {
  copied = λ x u r.
      let s = shape_in c.args.layout.now c.args.of in
      let m = g.B.Blocks.blocks c.args.heap.now in
      let W : List Take → Type 0 = (Took g.B.Blocks.allows g.B.Blocks.spent (g.B.Blocks.kept c.args.heap.now) (g.B.Blocks.kept c.args.heap.now) (g.B.Blocks.blocks c.args.heap.now) (g.B.Blocks.blocks c.args.heap.now)) in
      let e : c.args.count ≡ c.args.count - 0 = omega arith in
      let P : ℕ → Type 0 = λ k. Copying m m c.args.from_at c.args.from_at c.args.to c.args.to_at c.args.to_at (Repeats k (Fits s)) (Fits (Times c.args.count s)) x u W in
      subst P e (copying_none m c.args.from c.args.from_at c.args.to c.args.to_at (Times c.args.count s) x u W r (took_none g.B.Blocks.allows g.B.Blocks.spent (g.B.Blocks.kept c.args.heap.now) (g.B.Blocks.kept c.args.heap.now) (g.B.Blocks.blocks c.args.heap.now) (g.B.Blocks.blocks c.args.heap.now) refl refl));
}

pub copy_repeats-copy_piece-requires : goal.copy_repeats-copy_piece-requires
copy_repeats-copy_piece-requires g t c κs within =
    let s = shape_in c.args.layout.now c.args.of in
    let P = Repeats (c.args.count - (c.loop-i._i + 1)) (Fits s) in
    let old = g.B.Blocks.blocks c.args.heap.now in
    let now = g.B.Blocks.blocks c.loop-i.heap in
    let r = c.requires.ready in
    let f = copying_element old now c.args.from_at c.loop-i.from_place c.args.to c.args.to_at c.loop-i.to_place c.args.count c.loop-i._i (Fits s) (Fits (Times c.args.count s)) r.0 r.1 c.loop-i-test.true (c.loop-i.invariant.copied r.0 r.1 r.2) in
    let ready = part_ready old now c.args.from c.args.from_at c.loop-i.from_place c.args.to c.args.to_at c.loop-i.to_place P (Fits (Times c.args.count s)) s r.0 r.1 r.2.source.stands r.2.target.stands r.2.apart r.2.beneath r.2.bare f in
    let size = size-fits (Times c.args.count s) r.0 r.2.source.fits in
    let room = size-fits (Times c.args.count s) r.1 r.2.target.fits in
    let a = c.requires.from_bound in
    let b = c.requires.to_bound in
    let n = copying_within old now c.args.from_at c.loop-i.from_place c.args.to c.args.to_at c.loop-i.to_place P (Fits (Times c.args.count s)) s r.0 r.1 f (2 ^ 64) (omega arith) (omega arith) in
    (search rules, (search rules, (c.requires.numbered, ((f.has.front, f.takes.front, ready), (n.0, n.1)))))

pub copy_repeats-returns-in_err-copy_piece : goal.copy_repeats-returns-in_err-copy_piece
copy_repeats-returns-in_err-copy_piece g t c = λ x u r.
    let s = shape_in c.args.layout.now c.args.of in
    let P = Repeats (c.args.count - (c.loop-i._i + 1)) (Fits s) in
    let old = g.B.Blocks.blocks c.args.heap.now in
    let now = g.B.Blocks.blocks c.loop-i.heap in
    let new = g.B.Blocks.blocks c.copy_piece.new.heap in
    let f = copying_element old now c.args.from_at c.loop-i.from_place c.args.to c.args.to_at c.loop-i.to_place c.args.count c.loop-i._i (Fits s) (Fits (Times c.args.count s)) x u c.loop-i-test.true (c.loop-i.invariant.copied x u r) in
    let ready = part_ready old now c.args.from c.args.from_at c.loop-i.from_place c.args.to c.args.to_at c.loop-i.to_place P (Fits (Times c.args.count s)) s x u r.source.stands r.target.stands r.apart r.beneath r.bare f in
    let w = err_from_is_err_and c.from_residual.result c.from_residual.ensures.1 in
    let X = (Took g.B.Blocks.allows g.B.Blocks.spent (g.B.Blocks.kept c.args.heap.now) (g.B.Blocks.kept c.copy_piece.new.heap) (g.B.Blocks.blocks c.args.heap.now) (g.B.Blocks.blocks c.copy_piece.new.heap)) in
    rw (w.1, w.2) (copies_stop old now new c.args.from c.args.from_at c.loop-i.from_place c.args.to c.args.to_at c.loop-i.to_place P (Times c.args.count s) s x u r f _ (c.in_err-copy_piece.ensures f.has.front f.takes.front ready) X (took_then g.B.Blocks.allows g.B.Blocks.spent (g.B.Blocks.kept c.args.heap.now) (g.B.Blocks.kept c.loop-i.heap) (g.B.Blocks.kept c.copy_piece.new.heap) (g.B.Blocks.blocks c.args.heap.now) (g.B.Blocks.blocks c.loop-i.heap) (g.B.Blocks.blocks c.copy_piece.new.heap)))

pub copy_repeats-overflow_add-from_place : goal.copy_repeats-overflow_add-from_place
copy_repeats-overflow_add-from_place g t c =
    let s = shape_in c.args.layout.now c.args.of in
    let P = Repeats (c.args.count - (c.loop-i._i + 1)) (Fits s) in
    let old = g.B.Blocks.blocks c.args.heap.now in
    let now = g.B.Blocks.blocks c.loop-i.heap in
    let r = c.requires.ready in
    let f = copying_element old now c.args.from_at c.loop-i.from_place c.args.to c.args.to_at c.loop-i.to_place c.args.count c.loop-i._i (Fits s) (Fits (Times c.args.count s)) r.0 r.1 c.loop-i-test.true (c.loop-i.invariant.copied r.0 r.1 r.2) in
    let size = size-fits (Times c.args.count s) r.0 r.2.source.fits in
    let room = size-fits (Times c.args.count s) r.1 r.2.target.fits in
    let a = c.requires.from_bound in
    let b = c.requires.to_bound in
    let n = copying_within old now c.args.from_at c.loop-i.from_place c.args.to c.args.to_at c.loop-i.to_place P (Fits (Times c.args.count s)) s r.0 r.1 f (2 ^ 64) (omega arith) (omega arith) in
    omega (arith, n.0, c.words_of-size.ensures)

pub copy_repeats-overflow_add-to_place : goal.copy_repeats-overflow_add-to_place
copy_repeats-overflow_add-to_place g t c =
    let s = shape_in c.args.layout.now c.args.of in
    let P = Repeats (c.args.count - (c.loop-i._i + 1)) (Fits s) in
    let old = g.B.Blocks.blocks c.args.heap.now in
    let now = g.B.Blocks.blocks c.loop-i.heap in
    let r = c.requires.ready in
    let f = copying_element old now c.args.from_at c.loop-i.from_place c.args.to c.args.to_at c.loop-i.to_place c.args.count c.loop-i._i (Fits s) (Fits (Times c.args.count s)) r.0 r.1 c.loop-i-test.true (c.loop-i.invariant.copied r.0 r.1 r.2) in
    let size = size-fits (Times c.args.count s) r.0 r.2.source.fits in
    let room = size-fits (Times c.args.count s) r.1 r.2.target.fits in
    let a = c.requires.from_bound in
    let b = c.requires.to_bound in
    let n = copying_within old now c.args.from_at c.loop-i.from_place c.args.to c.args.to_at c.loop-i.to_place P (Fits (Times c.args.count s)) s r.0 r.1 f (2 ^ 64) (omega arith) (omega arith) in
    omega (arith, n.1, c.words_of-size.ensures)

pub copy_repeats-loop-i-preserved : goal.copy_repeats-loop-i-preserved
copy_repeats-loop-i-preserved g t c =
    let s = shape_in c.args.layout.now c.args.of in
    let P = Repeats (c.args.count - (c.loop-i._i + 1)) (Fits s) in
    let old = g.B.Blocks.blocks c.args.heap.now in
    let now = g.B.Blocks.blocks c.loop-i.heap in
    let new = g.B.Blocks.blocks c.copy_piece.new.heap in
    record {
      copied = λ x u r.
          let f = copying_element old now c.args.from_at c.loop-i.from_place c.args.to c.args.to_at c.loop-i.to_place c.args.count c.loop-i._i (Fits s) (Fits (Times c.args.count s)) x u c.loop-i-test.true (c.loop-i.invariant.copied x u r) in
          let ready = part_ready old now c.args.from c.args.from_at c.loop-i.from_place c.args.to c.args.to_at c.loop-i.to_place P (Fits (Times c.args.count s)) s x u r.source.stands r.target.stands r.apart r.beneath r.bare f in
          copying_more old now c.args.from c.args.from_at c.loop-i.from_place c.args.to c.args.to_at c.loop-i.to_place P (Fits (Times c.args.count s)) s x u r.source.stands r.target.stands r.apart r.beneath r.bare f new [] (c.in_ok-copy_piece.ensures f.has.front f.takes.front ready) c.words_of-size.result c.words_of-size.ensures refl (Took g.B.Blocks.allows g.B.Blocks.spent (g.B.Blocks.kept c.args.heap.now) (g.B.Blocks.kept c.copy_piece.new.heap) (g.B.Blocks.blocks c.args.heap.now) (g.B.Blocks.blocks c.copy_piece.new.heap)) (took_then g.B.Blocks.allows g.B.Blocks.spent (g.B.Blocks.kept c.args.heap.now) (g.B.Blocks.kept c.loop-i.heap) (g.B.Blocks.kept c.copy_piece.new.heap) (g.B.Blocks.blocks c.args.heap.now) (g.B.Blocks.blocks c.loop-i.heap) (g.B.Blocks.blocks c.copy_piece.new.heap));
    }

pub copy_repeats-returns : goal.copy_repeats-returns
copy_repeats-returns g t c = λ x u r.
    copied_elements (g.B.Blocks.blocks c.args.heap.now) (g.B.Blocks.blocks c.loop-i.heap) c.args.from_at c.loop-i.from_place c.args.to c.args.to_at c.loop-i.to_place c.args.count c.loop-i._i (Fits (shape_in c.args.layout.now c.args.of)) (Times c.args.count (shape_in c.args.layout.now c.args.of)) x u c.loop-i-test.false (c.loop-i.invariant.copied x u r)

pub copy_parts-loop-part-init : goal.copy_parts-loop-part-init
copy_parts-loop-part-init g t c = record {
  copied = λ x u r. copying_none (g.B.Blocks.blocks c.args.heap.now) c.args.from c.args.from_at c.args.to c.args.to_at (row (map (shape_at (shapes c.args.layout.now)) c.args.parts.now)) x u (Took g.B.Blocks.allows g.B.Blocks.spent (g.B.Blocks.kept c.args.heap.now) (g.B.Blocks.kept c.args.heap.now) (g.B.Blocks.blocks c.args.heap.now) (g.B.Blocks.blocks c.args.heap.now)) r (took_none g.B.Blocks.allows g.B.Blocks.spent (g.B.Blocks.kept c.args.heap.now) (g.B.Blocks.kept c.args.heap.now) (g.B.Blocks.blocks c.args.heap.now) (g.B.Blocks.blocks c.args.heap.now) refl refl);
}

pub copy_parts-copy_piece-requires : goal.copy_parts-copy_piece-requires
copy_parts-copy_piece-requires g t c κs within =
    let ss = shapes c.args.layout.now in
    let whole = row (map (shape_at ss) c.args.parts.now) in
    let s = shape_at ss (get_or c.args.parts.now c.loop-part.part-index 0) in
    let P = Fits (row (map (shape_at ss) (drop (c.loop-part.part-index + 1) c.args.parts.now))) in
    let old = g.B.Blocks.blocks c.args.heap.now in
    let now = g.B.Blocks.blocks c.loop-part.heap in
    let r = c.requires.ready in
    let f = copying_part old now c.args.from_at c.loop-part.from_place c.args.to c.args.to_at c.loop-part.to_place c.loop-part.part-index ss c.args.parts.now (Fits whole) r.0 r.1 c.loop-part-test.true (c.loop-part.invariant.copied r.0 r.1 r.2) in
    let ready = part_ready old now c.args.from c.args.from_at c.loop-part.from_place c.args.to c.args.to_at c.loop-part.to_place P (Fits whole) s r.0 r.1 r.2.source.stands r.2.target.stands r.2.apart r.2.beneath r.2.bare f in
    let size = size-fits whole r.0 r.2.source.fits in
    let room = size-fits whole r.1 r.2.target.fits in
    let a = c.requires.from_bound in
    let b = c.requires.to_bound in
    let n = copying_within old now c.args.from_at c.loop-part.from_place c.args.to c.args.to_at c.loop-part.to_place P (Fits whole) s r.0 r.1 f (2 ^ 64) (omega arith) (omega arith) in
    let early : get_or c.args.parts.now c.loop-part.part-index 0 < c.args.piece = All-get_or (λ p. p < c.args.piece) c.args.parts.now c.loop-part.part-index 0 c.loop-part-test.true c.requires.earlier in
    let below : get_or c.args.parts.now c.loop-part.part-index 0 < piece_count c.args.layout.now = (let n = c.requires.numbered in omega arith) in
    (search (rules, early), (search rules, (below, ((f.has.front, f.takes.front, ready), (n.0, n.1)))))

pub copy_parts-returns-in_err-copy_piece : goal.copy_parts-returns-in_err-copy_piece
copy_parts-returns-in_err-copy_piece g t c = λ x u r.
    let ss = shapes c.args.layout.now in
    let whole = row (map (shape_at ss) c.args.parts.now) in
    let s = shape_at ss (get_or c.args.parts.now c.loop-part.part-index 0) in
    let P = Fits (row (map (shape_at ss) (drop (c.loop-part.part-index + 1) c.args.parts.now))) in
    let old = g.B.Blocks.blocks c.args.heap.now in
    let now = g.B.Blocks.blocks c.loop-part.heap in
    let new = g.B.Blocks.blocks c.copy_piece.new.heap in
    let f = copying_part old now c.args.from_at c.loop-part.from_place c.args.to c.args.to_at c.loop-part.to_place c.loop-part.part-index ss c.args.parts.now (Fits whole) x u c.loop-part-test.true (c.loop-part.invariant.copied x u r) in
    let ready = part_ready old now c.args.from c.args.from_at c.loop-part.from_place c.args.to c.args.to_at c.loop-part.to_place P (Fits whole) s x u r.source.stands r.target.stands r.apart r.beneath r.bare f in
    let w = err_from_is_err_and c.from_residual.result c.from_residual.ensures.1 in
    let X = (Took g.B.Blocks.allows g.B.Blocks.spent (g.B.Blocks.kept c.args.heap.now) (g.B.Blocks.kept c.copy_piece.new.heap) (g.B.Blocks.blocks c.args.heap.now) (g.B.Blocks.blocks c.copy_piece.new.heap)) in
    rw (w.1, w.2) (copies_stop old now new c.args.from c.args.from_at c.loop-part.from_place c.args.to c.args.to_at c.loop-part.to_place P whole s x u r f _ (c.in_err-copy_piece.ensures f.has.front f.takes.front ready) X (took_then g.B.Blocks.allows g.B.Blocks.spent (g.B.Blocks.kept c.args.heap.now) (g.B.Blocks.kept c.loop-part.heap) (g.B.Blocks.kept c.copy_piece.new.heap) (g.B.Blocks.blocks c.args.heap.now) (g.B.Blocks.blocks c.loop-part.heap) (g.B.Blocks.blocks c.copy_piece.new.heap)))

pub copy_parts-overflow_add-from_place : goal.copy_parts-overflow_add-from_place
copy_parts-overflow_add-from_place g t c =
    let ss = shapes c.args.layout.now in
    let whole = row (map (shape_at ss) c.args.parts.now) in
    let s = shape_at ss (get_or c.args.parts.now c.loop-part.part-index 0) in
    let P = Fits (row (map (shape_at ss) (drop (c.loop-part.part-index + 1) c.args.parts.now))) in
    let old = g.B.Blocks.blocks c.args.heap.now in
    let now = g.B.Blocks.blocks c.loop-part.heap in
    let r = c.requires.ready in
    let f = copying_part old now c.args.from_at c.loop-part.from_place c.args.to c.args.to_at c.loop-part.to_place c.loop-part.part-index ss c.args.parts.now (Fits whole) r.0 r.1 c.loop-part-test.true (c.loop-part.invariant.copied r.0 r.1 r.2) in
    let size = size-fits whole r.0 r.2.source.fits in
    let room = size-fits whole r.1 r.2.target.fits in
    let a = c.requires.from_bound in
    let b = c.requires.to_bound in
    let n = copying_within old now c.args.from_at c.loop-part.from_place c.args.to c.args.to_at c.loop-part.to_place P (Fits whole) s r.0 r.1 f (2 ^ 64) (omega arith) (omega arith) in
    omega (arith, n.0, c.words_of-size.ensures)

pub copy_parts-overflow_add-to_place : goal.copy_parts-overflow_add-to_place
copy_parts-overflow_add-to_place g t c =
    let ss = shapes c.args.layout.now in
    let whole = row (map (shape_at ss) c.args.parts.now) in
    let s = shape_at ss (get_or c.args.parts.now c.loop-part.part-index 0) in
    let P = Fits (row (map (shape_at ss) (drop (c.loop-part.part-index + 1) c.args.parts.now))) in
    let old = g.B.Blocks.blocks c.args.heap.now in
    let now = g.B.Blocks.blocks c.loop-part.heap in
    let r = c.requires.ready in
    let f = copying_part old now c.args.from_at c.loop-part.from_place c.args.to c.args.to_at c.loop-part.to_place c.loop-part.part-index ss c.args.parts.now (Fits whole) r.0 r.1 c.loop-part-test.true (c.loop-part.invariant.copied r.0 r.1 r.2) in
    let size = size-fits whole r.0 r.2.source.fits in
    let room = size-fits whole r.1 r.2.target.fits in
    let a = c.requires.from_bound in
    let b = c.requires.to_bound in
    let n = copying_within old now c.args.from_at c.loop-part.from_place c.args.to c.args.to_at c.loop-part.to_place P (Fits whole) s r.0 r.1 f (2 ^ 64) (omega arith) (omega arith) in
    omega (arith, n.1, c.words_of-size.ensures)

pub copy_parts-loop-part-preserved : goal.copy_parts-loop-part-preserved
copy_parts-loop-part-preserved g t c =
    let ss = shapes c.args.layout.now in
    let whole = row (map (shape_at ss) c.args.parts.now) in
    let s = shape_at ss (get_or c.args.parts.now c.loop-part.part-index 0) in
    let P = Fits (row (map (shape_at ss) (drop (c.loop-part.part-index + 1) c.args.parts.now))) in
    let old = g.B.Blocks.blocks c.args.heap.now in
    let now = g.B.Blocks.blocks c.loop-part.heap in
    let new = g.B.Blocks.blocks c.copy_piece.new.heap in
    record {
      copied = λ x u r.
          let f = copying_part old now c.args.from_at c.loop-part.from_place c.args.to c.args.to_at c.loop-part.to_place c.loop-part.part-index ss c.args.parts.now (Fits whole) x u c.loop-part-test.true (c.loop-part.invariant.copied x u r) in
          let ready = part_ready old now c.args.from c.args.from_at c.loop-part.from_place c.args.to c.args.to_at c.loop-part.to_place P (Fits whole) s x u r.source.stands r.target.stands r.apart r.beneath r.bare f in
          copying_more old now c.args.from c.args.from_at c.loop-part.from_place c.args.to c.args.to_at c.loop-part.to_place P (Fits whole) s x u r.source.stands r.target.stands r.apart r.beneath r.bare f new [] (c.in_ok-copy_piece.ensures f.has.front f.takes.front ready) c.words_of-size.result c.words_of-size.ensures refl (Took g.B.Blocks.allows g.B.Blocks.spent (g.B.Blocks.kept c.args.heap.now) (g.B.Blocks.kept c.copy_piece.new.heap) (g.B.Blocks.blocks c.args.heap.now) (g.B.Blocks.blocks c.copy_piece.new.heap)) (took_then g.B.Blocks.allows g.B.Blocks.spent (g.B.Blocks.kept c.args.heap.now) (g.B.Blocks.kept c.loop-part.heap) (g.B.Blocks.kept c.copy_piece.new.heap) (g.B.Blocks.blocks c.args.heap.now) (g.B.Blocks.blocks c.loop-part.heap) (g.B.Blocks.blocks c.copy_piece.new.heap));
    }

pub copy_parts-returns : goal.copy_parts-returns
copy_parts-returns g t c = λ x u r.
    copied_parts (g.B.Blocks.blocks c.args.heap.now) (g.B.Blocks.blocks c.loop-part.heap) c.args.from_at c.loop-part.from_place c.args.to c.args.to_at c.loop-part.to_place c.loop-part.part-index (shapes c.args.layout.now) c.args.parts.now (row (map (shape_at (shapes c.args.layout.now)) c.args.parts.now)) x u c.loop-part-test.false (c.loop-part.invariant.copied x u r)

pub copy_piece-copy_words-requires : goal.copy_piece-copy_words-requires
copy_piece-copy_words-requires g t c =
    let r = c.requires.ready in
    let s = shape_in c.args.layout.now c.args.piece in
    let a = size-fits s r.0 r.2.source.fits in
    let b = size-fits s r.1 r.2.target.fits in
    let v = r.2.source.stands.within in
    let w = r.2.target.stands.within in
    let e = c.words_of.ensures in
    record { from_live = r.2.source.stands.live; to_live = r.2.target.stands.live; different = λ e. r.2.apart (sym e); from_within = omega arith; to_within = omega arith }

pub copy_piece-returns-then-not-holds_allocatable :
    goal.copy_piece-returns-then-not-holds_allocatable
copy_piece-returns-then-not-holds_allocatable g t c = λ x u r.
    let e : has_holder (shape_in c.args.layout.now c.args.piece) ≡ false = cc in
    copies_plain (g.B.Blocks.blocks c.args.heap.now) (g.B.Blocks.blocks c.copy_words.new.heap) c.args.from c.args.from_at c.args.to c.args.to_at c.words_of.result (shape_in c.args.layout.now c.args.piece) x u (Took g.B.Blocks.allows g.B.Blocks.spent (g.B.Blocks.kept c.args.heap.now) (g.B.Blocks.kept c.copy_words.new.heap) (g.B.Blocks.blocks c.args.heap.now) (g.B.Blocks.blocks c.copy_words.new.heap)) e c.words_of.ensures r c.copy_words.ensures.written (λ z. (took_none g.B.Blocks.allows g.B.Blocks.spent (g.B.Blocks.kept c.args.heap.now) (g.B.Blocks.kept c.copy_words.new.heap) (g.B.Blocks.blocks c.args.heap.now) (g.B.Blocks.blocks c.copy_words.new.heap) c.copy_words.ensures.kept z))
