use Rattle.std.proofs.Common.{◌≡◌, ◌∙◌, sym, ap, subst, refl, rules, w64, FitsSigned, ℕ, ◌+◌, ◌*◌, ◌<◌, length, List, [], arith, ⊎_elim}
use Rattle.std.specs.Prelude.{ℤ, pos}
use Rattle.std.specs.List.{flat_map}
use Rattle.std.proofs.lemmas.Int.{to_z-of_z, to_z_pos}
use Rattle.f3_live_blocks.specs.Blocks.{words_of, with_words}
use Rattle.f3_desc.specs.declared.descriptor.Dim.{Dim}
use Rattle.f3_desc.specs.Descriptor.{places, progression}
use Rattle.f3_desc.specs.Laws.{size_of}
use Rattle.f3_room_arrays.specs.Words.{copied, places_from}
use Rattle.f3_room_arrays.proofs.Numbers.{along, progression-length}
use Rattle.f3_room_arrays.proofs.Placing.{IsCopied, copied-none, copied-source, copied-live}
use Rattle.f3_room_arrays.proofs.Running.{total-many, so_far-all, run-inside, start-is, some-runs, line-inside, part-inside, part-ends, copied-zero, copied-few, gathered-more, so_far, target-long, moved-inside, moved-copied}
use Rattle.f3_room_arrays.proofs.gathering.gather_words.Goals as goal

pub returns-then-words-eq0-clause-written : goal.returns-then-words-eq0-clause-written
returns-then-words-eq0-clause-written g c =
    let old = g.B.Blocks.blocks c.args.heap.now in
    let a = c.args.elements.now in
    let d : Dim = c.first_and_others.result.0 in
    let ds : List Dim = c.first_and_others.result.1.now in
    let split : places a ≡ flat_map (along d) (places_from (pos a.offset) ds) = ap (places_from (pos a.offset)) (sym c.as_slice.ensures.value) ∙ c.first_and_others.ensures.places (pos a.offset) in
    let n : ℕ = length (places a) in
    let zs : List ℤ = progression (pos c.args.to_at) (pos c.args.words) n in
    let us : List ℤ = words_of old c.args.to in
    let ws : List ℤ = words_of old a.block in
    let few : d.extent ≡ 0 → length zs ≡ 0 = λ e. progression-length (pos c.args.to_at) (pos c.args.words) n ∙ total-many a d ds split ∙ ap (λ (k : ℕ). k * size_of ds) e ∙ nothing (size_of ds) in
    let same : copied c.args.words us ws zs (places a) ≡ us = ⊎_elim (λ e. copied-zero c.args.words us ws zs (places a) e) (λ e. copied-few c.args.words us ws zs (places a) (few e.1)) c.then-words-eq0.either in
    (copied-none old a.block c.args.to c.args.words c.requires.live).is ∙ ap (with_words old c.args.to) (sym same)
  where
    nothing : (x : ℕ) → 0 * x ≡ 0
    nothing x = omega arith

pub size-number-end-requires : goal.size-number-end-requires
size-number-end-requires g c =
    let a = c.args.elements.now in
    let d : Dim = c.first_and_others.result.0 in
    let ds : List Dim = c.first_and_others.result.1.now in
    let split : places a ≡ flat_map (along d) (places_from (pos a.offset) ds) = ap (places_from (pos a.offset)) (sym c.as_slice.ensures.value) ∙ c.first_and_others.ensures.places (pos a.offset) in
    let some = c.if-first-eq0.false in
    let words = c.if-words-eq0.false in
    let room = c.requires.room in
    let size = c.length.ensures in
    let small = c.length.type_inv in
    some-runs a d ds split c.args.words 18446744073709551616 (omega arith) (omega arith) (omega arith)

pub loop-number-init : goal.loop-number-init
loop-number-init g c =
    let old = g.B.Blocks.blocks c.args.heap.now in
    let a = c.args.elements.now in
    let d : Dim = c.first_and_others.result.0 in
    let none : 0 ≡ 0 * d.extent = omega arith in
    record {
      copied = subst (λ (k : ℕ). IsCopied old old a.block c.args.to c.args.words (progression (pos c.args.to_at) (pos c.args.words) k) (let l : List ℤ = [] in l)) none
          (copied-none old a.block c.args.to c.args.words c.requires.live);
      at = omega arith;
      kept = refl;
    }

pub copy_run-requires-clause-from_live : goal.copy_run-requires-clause-from_live
copy_run-requires-clause-from_live g c =
    copied-live _ _ c.args.elements.now.block c.args.to c.args.words _ _ c.args.elements.now.block c.loop-number.invariant.copied c.requires.within.live

pub copy_run-requires-clause-to_live : goal.copy_run-requires-clause-to_live
copy_run-requires-clause-to_live g c =
    copied-live _ _ c.args.elements.now.block c.args.to c.args.words _ _ c.args.to c.loop-number.invariant.copied c.requires.live

pub copy_run-requires-clause-from_inside : goal.copy_run-requires-clause-from_inside
copy_run-requires-clause-from_inside g c =
    let a = c.args.elements.now in
    let d : Dim = c.first_and_others.result.0 in
    let ds : List Dim = c.first_and_others.result.1.now in
    let split : places a ≡ flat_map (along d) (places_from (pos a.offset) ds) = ap (places_from (pos a.offset)) (sym c.as_slice.ensures.value) ∙ c.first_and_others.ensures.places (pos a.offset) in
    let number : c.loop-number.number < size_of ds = omega (arith, c.loop-number-test.true, c.size-number-end.ensures) in
    let some = c.if-first-eq0.false in
    let size = c.length-2.ensures in
    let small = c.length-2.type_inv in
    let is = start-is a d ds split (length (words_of (g.B.Blocks.blocks c.args.heap.now) a.block)) c.args.words c.loop-number.number c.further.result (omega arith) c.requires.within.inside number (omega arith) c.further.ensures c.further.type_inv in
    let run = run-inside a d ds split (length (words_of (g.B.Blocks.blocks c.args.heap.now) a.block)) c.args.words c.loop-number.number c.requires.within.inside number in
    let fits : FitsSigned w64 d.stride = search rules in
    let kept = ap length (copied-source _ _ a.block c.args.to c.args.words _ _ (λ e. c.requires.apart (sym e)) c.loop-number.invariant.copied) in
    moved-inside c.args.words d.extent kept is (to_z-of_z w64 d.stride fits) run

pub copy_run-requires-clause-to_inside : goal.copy_run-requires-clause-to_inside
copy_run-requires-clause-to_inside g c =
    let old = g.B.Blocks.blocks c.args.heap.now in
    let a = c.args.elements.now in
    let d : Dim = c.first_and_others.result.0 in
    let ds : List Dim = c.first_and_others.result.1.now in
    let split : places a ≡ flat_map (along d) (places_from (pos a.offset) ds) = ap (places_from (pos a.offset)) (sym c.as_slice.ensures.value) ∙ c.first_and_others.ensures.places (pos a.offset) in
    let number : c.loop-number.number < size_of ds = omega (arith, c.loop-number-test.true, c.size-number-end.ensures) in
    let line = line-inside (length (words_of old c.args.to)) c.args.words c.args.to_at (length (places a)) c.requires.room in
    let part = part-inside (length (words_of old c.args.to)) c.args.words c.args.to_at c.args.words c.loop-number.at c.loop-number.number d.extent (size_of ds) (length (places a)) (total-many a d ds split) number c.loop-number.invariant.at line in
    let kept = target-long old (g.B.Blocks.blocks c.loop-number.heap) a d ds split a.block c.args.to c.args.words c.args.to_at c.args.words c.loop-number.number number c.loop-number.invariant.copied line c.requires.within.inside in
    moved-inside c.args.words d.extent kept refl (to_z_pos w64 c.args.words c.requires.short) part

pub overflow_mul-at : goal.overflow_mul-at
overflow_mul-at g c =
    let a = c.args.elements.now in
    let d : Dim = c.first_and_others.result.0 in
    let ds : List Dim = c.first_and_others.result.1.now in
    let split : places a ≡ flat_map (along d) (places_from (pos a.offset) ds) = ap (places_from (pos a.offset)) (sym c.as_slice.ensures.value) ∙ c.first_and_others.ensures.places (pos a.offset) in
    let number : c.loop-number.number < size_of ds = omega (arith, c.loop-number-test.true, c.size-number-end.ensures) in
    let ends = part-ends c.args.to_at c.args.words c.loop-number.at c.loop-number.number d.extent (size_of ds) (length (places a)) _ (total-many a d ds split) number c.loop-number.invariant.at c.requires.room in
    let size = c.length.ensures in
    let small = c.length.type_inv in
    omega arith

pub overflow_add-at : goal.overflow_add-at
overflow_add-at g c =
    let a = c.args.elements.now in
    let d : Dim = c.first_and_others.result.0 in
    let ds : List Dim = c.first_and_others.result.1.now in
    let split : places a ≡ flat_map (along d) (places_from (pos a.offset) ds) = ap (places_from (pos a.offset)) (sym c.as_slice.ensures.value) ∙ c.first_and_others.ensures.places (pos a.offset) in
    let number : c.loop-number.number < size_of ds = omega (arith, c.loop-number-test.true, c.size-number-end.ensures) in
    let ends = part-ends c.args.to_at c.args.words c.loop-number.at c.loop-number.number d.extent (size_of ds) (length (places a)) _ (total-many a d ds split) number c.loop-number.invariant.at c.requires.room in
    let size = c.length.ensures in
    let small = c.length.type_inv in
    omega arith

pub loop-number-preserved : goal.loop-number-preserved
loop-number-preserved g c =
    let old = g.B.Blocks.blocks c.args.heap.now in
    let mid = g.B.Blocks.blocks c.loop-number.heap in
    let a = c.args.elements.now in
    let d : Dim = c.first_and_others.result.0 in
    let ds : List Dim = c.first_and_others.result.1.now in
    let split : places a ≡ flat_map (along d) (places_from (pos a.offset) ds) = ap (places_from (pos a.offset)) (sym c.as_slice.ensures.value) ∙ c.first_and_others.ensures.places (pos a.offset) in
    let number : c.loop-number.number < size_of ds = omega (arith, c.loop-number-test.true, c.size-number-end.ensures) in
    let some = c.if-first-eq0.false in
    let size = c.length-2.ensures in
    let small = c.length-2.type_inv in
    let is = start-is a d ds split (length (words_of old a.block)) c.args.words c.loop-number.number c.further.result (omega arith) c.requires.within.inside number (omega arith) c.further.ensures c.further.type_inv in
    let fits : FitsSigned w64 d.stride = search rules in
    let run : IsCopied mid (g.B.Blocks.blocks c.copy_run.new.heap) a.block c.args.to c.args.words (progression (pos c.loop-number.at) (pos c.args.words) d.extent) (along d (pos c.further.result)) =
    moved-copied (pos c.loop-number.at) (pos c.further.result) d.extent (to_z_pos w64 c.args.words c.requires.short) (to_z-of_z w64 d.stride fits) (record { is = c.copy_run.ensures.written }) in
    record {
      copied = gathered-more old mid (g.B.Blocks.blocks c.copy_run.new.heap) a d ds split c.args.to c.args.words c.args.to_at c.args.words c.loop-number.at c.further.result c.loop-number.number number is c.loop-number.invariant.at
          (λ e. c.requires.apart (sym e)) c.loop-number.invariant.copied run;
      at = further-on c.args.to_at c.loop-number.at c.loop-number.number d.extent c.args.words c.loop-number.invariant.at;
      kept = c.copy_run.ensures.kept ∙ c.loop-number.invariant.kept;
    }
  where
    further-on : (base at k e n : ℕ) → at ≡ base + k * e * n → at + e * n ≡ base + (k + 1) * e * n
    further-on base at k e n is = omega arith

pub returns-clause-written : goal.returns-clause-written
returns-clause-written g c =
    let old = g.B.Blocks.blocks c.args.heap.now in
    let now = g.B.Blocks.blocks c.loop-number.heap in
    let a = c.args.elements.now in
    let d : Dim = c.first_and_others.result.0 in
    let ds : List Dim = c.first_and_others.result.1.now in
    let split : places a ≡ flat_map (along d) (places_from (pos a.offset) ds) = ap (places_from (pos a.offset)) (sym c.as_slice.ensures.value) ∙ c.first_and_others.ensures.places (pos a.offset) in
    let all : c.loop-number.number ≡ size_of ds = omega (arith, c.loop-number-test.false, c.size-number-end.ensures, c.loop-number.auto.number-end) in
    let many : c.loop-number.number * d.extent ≡ length (places a) = ap (λ (k : ℕ). k * d.extent) all ∙ swapped (size_of ds) d.extent ∙ sym (total-many a d ds split) in
    let done = subst (λ (l : List ℤ). IsCopied old now a.block c.args.to c.args.words (progression (pos c.args.to_at) (pos c.args.words) (length (places a))) l) (so_far-all a d ds split c.loop-number.number all)
    (subst (λ (k : ℕ). IsCopied old now a.block c.args.to c.args.words (progression (pos c.args.to_at) (pos c.args.words) k) (so_far a d ds split c.loop-number.number)) many c.loop-number.invariant.copied) in
    done.is
  where
    swapped : (x y : ℕ) → x * y ≡ y * x
    swapped x y = omega arith
