use Rattle.std.proofs.Common.{◌≡◌, ◌∙◌, sym, ap, subst, refl, rules, w64, FitsSigned, length, List, arith}
use Rattle.std.specs.Prelude.{ℤ, pos, ◌+ℤ◌, ◌*ℤ◌}
use Rattle.std.proofs.lemmas.Int.{to_z-of_z}
use Rattle.f3_live_blocks.specs.Blocks.{words_of, with_words}
use Rattle.f3_desc.specs.Inner.Congruent.{IsCongruent}
use Rattle.f3_desc.specs.Descriptor.{progression}
use Rattle.f3_room_arrays.specs.Words.{copied}
use Rattle.f3_room_arrays.proofs.Placing.{inside-nth, inside-place, inside-end, inside-dense, inside-wide, copied-dense, copied-none, copied-source, copied-target, copied-long, copied-live, copied-nothing, run-more, front-inside}
use Rattle.f3_room_arrays.proofs.words.copy_run.Goals as goal

pub prove-unreachable-requires : goal.prove-unreachable-requires
prove-unreachable-requires g c =
    let ne = c.if-count-eq0.false in
    let wide = inside-wide _ c.args.words (pos c.args.from.at) c.args.from.stride c.args.count c.requires.from_inside (omega arith) in
    let less = c.if-prove.true in
    let size = c.length.ensures in
    omega arith

pub prove-unreachable-requires-2 : goal.prove-unreachable-requires-2
prove-unreachable-requires-2 g c =
    let ne = c.if-count-eq0.false in
    let wide = inside-wide _ c.args.words (pos c.args.to.at) c.args.to.stride c.args.count c.requires.to_inside (omega arith) in
    let less = c.if-prove-2.true in
    let size = c.length-2.ensures in
    omega arith

pub overflow_mul-count : goal.overflow_mul-count
overflow_mul-count g c =
    let ne = c.if-count-eq0.false in
    let dense = inside-dense _ c.args.words c.args.from.at c.args.count c.args.from.stride (c.is_dense.ensures c.if-is_dense.true) c.requires.from_inside (omega arith) in
    let size = c.length.ensures in
    let small = c.length.type_inv in
    omega arith

pub copy_words-requires-clause-from_within : goal.copy_words-requires-clause-from_within
copy_words-requires-clause-from_within g c =
    let ne = c.if-count-eq0.false in
    inside-dense _ c.args.words c.args.from.at c.args.count c.args.from.stride (c.is_dense.ensures c.if-is_dense.true) c.requires.from_inside (omega arith)

pub copy_words-requires-clause-to_within : goal.copy_words-requires-clause-to_within
copy_words-requires-clause-to_within g c =
    let ne = c.if-count-eq0.false in
    inside-dense _ c.args.words c.args.to.at c.args.count c.args.to.stride (c.is_dense-then-is_dense.ensures c.if-is_dense-2.true) c.requires.to_inside (omega arith)

pub returns-then-is_dense-2-clause-written : goal.returns-then-is_dense-2-clause-written
returns-then-is_dense-2-clause-written g c =
    let ne = c.if-count-eq0.false in
    let old = g.B.Blocks.blocks c.args.heap.now in
    let us : List ℤ = words_of old c.args.to.block in
    let ws : List ℤ = words_of old c.args.from.block in
    let from : c.args.from.stride ≡ pos c.args.words = c.is_dense.ensures c.if-is_dense.true in
    let to : c.args.to.stride ≡ pos c.args.words = c.is_dense-then-is_dense.ensures c.if-is_dense-2.true in
    let dense = copied-dense c.args.words c.args.count us ws c.args.to.at c.args.from.at
    (inside-dense _ c.args.words c.args.to.at c.args.count c.args.to.stride to c.requires.to_inside (omega arith))
    (inside-dense _ c.args.words c.args.from.at c.args.count c.args.from.stride from c.requires.from_inside (omega arith)) in
    c.copy_words.ensures.written ∙ ap (with_words old c.args.to.block) (sym dense)
    ∙ ap (λ (k : ℤ). with_words old c.args.to.block (copied c.args.words us ws (progression (pos c.args.to.at) k c.args.count) (progression (pos c.args.from.at) (pos c.args.words) c.args.count))) (sym to)
    ∙ ap (λ (k : ℤ). with_words old c.args.to.block (copied c.args.words us ws (progression (pos c.args.to.at) c.args.to.stride c.args.count) (progression (pos c.args.from.at) k c.args.count))) (sym from)

pub loop-number-init : goal.loop-number-init
loop-number-init g c = record { copied = copied-none (g.B.Blocks.blocks c.args.heap.now) c.args.from.block c.args.to.block c.args.words c.requires.to_live; kept = refl }

pub copy_words-requires-in-loop-number-clause-from_live : goal.copy_words-requires-in-loop-number-clause-from_live
copy_words-requires-in-loop-number-clause-from_live g c =
    copied-live _ _ c.args.from.block c.args.to.block c.args.words _ _ c.args.from.block c.loop-number.invariant.copied c.requires.from_live

pub copy_words-requires-in-loop-number-clause-to_live : goal.copy_words-requires-in-loop-number-clause-to_live
copy_words-requires-in-loop-number-clause-to_live g c =
    copied-live _ _ c.args.from.block c.args.to.block c.args.words _ _ c.args.to.block c.loop-number.invariant.copied c.requires.to_live

pub copy_words-requires-in-loop-number-clause-from_within : goal.copy_words-requires-in-loop-number-clause-from_within
copy_words-requires-in-loop-number-clause-from_within g c =
    let here = inside-nth _ c.args.words (pos c.args.from.at) c.args.from.stride c.args.count c.loop-number.number c.requires.from_inside c.loop-number-test.true in
    let fits : FitsSigned w64 c.args.from.stride = search rules in
    let near = subst (λ (z : ℤ). IsCongruent (pos c.behind-source.result) (pos c.args.from.at +ℤ (pos c.loop-number.number *ℤ z))) (to_z-of_z w64 c.args.from.stride fits) c.behind-source.ensures in
    let small = c.length.type_inv in
    let size = c.length.ensures in
    let is = inside-place _ c.args.words c.behind-source.result (pos c.args.from.at +ℤ (pos c.loop-number.number *ℤ c.args.from.stride)) (omega arith) here near c.behind-source.type_inv in
    let same = ap length (copied-source _ _ c.args.from.block c.args.to.block c.args.words _ _ c.requires.different c.loop-number.invariant.copied) in
    let lies = inside-end _ c.args.words c.behind-source.result _ here is in
    omega arith

pub copy_words-requires-in-loop-number-clause-to_within : goal.copy_words-requires-in-loop-number-clause-to_within
copy_words-requires-in-loop-number-clause-to_within g c =
    let old = g.B.Blocks.blocks c.args.heap.now in
    let here = inside-nth _ c.args.words (pos c.args.to.at) c.args.to.stride c.args.count c.loop-number.number c.requires.to_inside c.loop-number-test.true in
    let fits : FitsSigned w64 c.args.to.stride = search rules in
    let near = subst (λ (z : ℤ). IsCongruent (pos c.behind-target.result) (pos c.args.to.at +ℤ (pos c.loop-number.number *ℤ z))) (to_z-of_z w64 c.args.to.stride fits) c.behind-target.ensures in
    let small = c.length-2.type_inv in
    let size = c.length-2.ensures in
    let is = inside-place _ c.args.words c.behind-target.result (pos c.args.to.at +ℤ (pos c.loop-number.number *ℤ c.args.to.stride)) (omega arith) here near c.behind-target.type_inv in
    let before = c.loop-number-test.true in
    let same = ap length (copied-target _ _ c.args.from.block c.args.to.block c.args.words _ _ c.loop-number.invariant.copied)
    ∙ copied-long c.args.words (words_of old c.args.to.block) (words_of old c.args.from.block) (progression (pos c.args.to.at) c.args.to.stride c.loop-number.number) (progression (pos c.args.from.at) c.args.from.stride c.loop-number.number)
    (front-inside _ c.args.words (pos c.args.to.at) c.args.to.stride c.loop-number.number c.args.count (omega arith) c.requires.to_inside)
    (front-inside _ c.args.words (pos c.args.from.at) c.args.from.stride c.loop-number.number c.args.count (omega arith) c.requires.from_inside) in
    let lies = inside-end _ c.args.words c.behind-target.result _ here is in
    omega arith

pub loop-number-preserved : goal.loop-number-preserved
loop-number-preserved g c =
    let from_here = inside-nth _ c.args.words (pos c.args.from.at) c.args.from.stride c.args.count c.loop-number.number c.requires.from_inside c.loop-number-test.true in
    let from_fits : FitsSigned w64 c.args.from.stride = search rules in
    let from_near = subst (λ (z : ℤ). IsCongruent (pos c.behind-source.result) (pos c.args.from.at +ℤ (pos c.loop-number.number *ℤ z))) (to_z-of_z w64 c.args.from.stride from_fits) c.behind-source.ensures in
    let from_size = c.length.ensures in
    let from_small = c.length.type_inv in
    let from_is = inside-place _ c.args.words c.behind-source.result (pos c.args.from.at +ℤ (pos c.loop-number.number *ℤ c.args.from.stride)) (omega arith) from_here from_near c.behind-source.type_inv in
    let to_here = inside-nth _ c.args.words (pos c.args.to.at) c.args.to.stride c.args.count c.loop-number.number c.requires.to_inside c.loop-number-test.true in
    let to_fits : FitsSigned w64 c.args.to.stride = search rules in
    let to_near = subst (λ (z : ℤ). IsCongruent (pos c.behind-target.result) (pos c.args.to.at +ℤ (pos c.loop-number.number *ℤ z))) (to_z-of_z w64 c.args.to.stride to_fits) c.behind-target.ensures in
    let to_size = c.length-2.ensures in
    let to_small = c.length-2.type_inv in
    let to_is = inside-place _ c.args.words c.behind-target.result (pos c.args.to.at +ℤ (pos c.loop-number.number *ℤ c.args.to.stride)) (omega arith) to_here to_near c.behind-target.type_inv in
    record {
      copied = run-more _ _ _ c.args.from.block c.args.to.block c.args.words c.loop-number.number c.behind-target.result c.behind-source.result (pos c.args.to.at) (pos c.args.from.at) c.args.to.stride c.args.from.stride
          c.requires.different c.loop-number.invariant.copied to_is from_is c.copy_words-in-loop-number.ensures.written;
      kept = c.copy_words-in-loop-number.ensures.kept ∙ c.loop-number.invariant.kept;
    }

pub returns-then-count-eq0-clause-written : goal.returns-then-count-eq0-clause-written
returns-then-count-eq0-clause-written g c =
    copied-nothing (g.B.Blocks.blocks c.args.heap.now) c.args.from.block c.args.to.block c.args.words c.args.count (pos c.args.to.at) (pos c.args.from.at) c.args.to.stride c.args.from.stride c.requires.to_live c.if-count-eq0.true
