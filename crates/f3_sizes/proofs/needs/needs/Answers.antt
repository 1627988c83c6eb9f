use Rattle.std.proofs.Common.{◌≡◌, ℕ, List, length, take, sym, ap, ◌∙◌, arith}
use Rattle.std.proofs.lemmas.List.{length-take-le}
use Rattle.f3_code.specs.Lower.{lowered_program}
use Rattle.f3_sizes.specs.Parts.{AreCodeParts, AreAnswers}
use Rattle.f3_sizes.specs.Needs.{AreNeverDeeper, AreNotPadded}
use Rattle.f3_sizes.proofs.Laying.{enough, code_parts, answers_never_deeper, answers_not_padded, moved, if_ok_on}
use Rattle.f3_sizes.proofs.needs.needs.Goals as goal

pub slice_bounds-procedures-end : goal.slice_bounds-procedures-end
slice_bounds-procedures-end c =
    let n : c.len.result ≡ length c.args.program.now.procedures.items = omega (arith, c.args.program.now.procedures.ok) in
    let le = enough c.args.program.now c.args.emission.now c.requires in
    let v = ap (λ (xs : List ℕ). length xs) c.deref.ensures.value in
    sym (length-take-le c.len.result c.deref.result.now (omega (arith, n, le, v)))

pub told-requires : goal.told-requires
told-requires c =
    let n : c.len.result ≡ length c.args.program.now.procedures.items = omega (arith, c.args.program.now.procedures.ok) in
    let ks = ap (λ k. take k c.deref.result.now) n ∙ ap (λ xs. take (length c.args.program.now.procedures.items) xs) c.deref.ensures.value in
    moved AreCodeParts _ _ _ _ _ _ (sym c.deref-2.ensures.value) (sym c.deref-3.ensures.value) (sym ks) (code_parts c.args.program.now c.args.emission.now c.requires)

pub returns-clause-never_deeper : goal.returns-clause-never_deeper
returns-clause-never_deeper c =
    let n : c.len.result ≡ length c.args.program.now.procedures.items = omega (arith, c.args.program.now.procedures.ok) in
    let ks = ap (λ k. take k c.deref.result.now) n ∙ ap (λ xs. take (length c.args.program.now.procedures.items) xs) c.deref.ensures.value in
    if_ok_on (AreAnswers c.deref-2.result.now c.deref-3.result.now (take c.len.result c.deref.result.now)) (AreNeverDeeper (lowered_program c.args.program.now)) c.told.result
    (λ x a. answers_never_deeper c.args.program.now c.args.emission.now c.requires x
    (moved (λ ls rs ks. AreAnswers ls rs ks x) _ _ _ _ _ _ c.deref-2.ensures.value c.deref-3.ensures.value ks a)) c.told.ensures

pub returns-clause-not_padded : goal.returns-clause-not_padded
returns-clause-not_padded c =
    let n : c.len.result ≡ length c.args.program.now.procedures.items = omega (arith, c.args.program.now.procedures.ok) in
    let ks = ap (λ k. take k c.deref.result.now) n ∙ ap (λ xs. take (length c.args.program.now.procedures.items) xs) c.deref.ensures.value in
    if_ok_on (AreAnswers c.deref-2.result.now c.deref-3.result.now (take c.len.result c.deref.result.now)) (AreNotPadded (lowered_program c.args.program.now)) c.told.result
    (λ x a. answers_not_padded c.args.program.now c.args.emission.now c.requires x
    (moved (λ ls rs ks. AreAnswers ls rs ks x) _ _ _ _ _ _ c.deref-2.ensures.value c.deref-3.ensures.value ks a)) c.told.ensures
