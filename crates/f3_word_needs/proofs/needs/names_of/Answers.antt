use Rattle.std.proofs.Common.{◌≡◌, ◌-◌, ◌^◌, ℕ, List, length, min, take, sym, ap, ◌∙◌, arith}
use Rattle.std.proofs.lemmas.List.{length-take-le}
use Rattle.f3_sizes.specs.Parts.{AreCodeParts}
use Rattle.f3_sizes.proofs.Laying.{enough, code_parts, moved}
use Rattle.f3_word_needs.proofs.Emitted.{names_moved, open_moved, told_names, told_open, told_dummies}
use Rattle.f3_word_needs.proofs.needs.names_of.Goals as goal

pub slice_bounds-starts-end : goal.slice_bounds-starts-end
slice_bounds-starts-end c =
    let n : c.len.result ≡ length c.args.program.now.procedures.items = omega (arith, c.args.program.now.procedures.ok) in
    let le = enough c.args.program.now c.args.emission.now c.requires in
    let v = ap (λ (xs : List ℕ). length xs) c.deref.ensures.value in
    sym (length-take-le c.len.result c.deref.result.now (omega (arith, n, le, v)))

pub told-requires-clause-parts : goal.told-requires-clause-parts
told-requires-clause-parts c =
    let n : c.len.result ≡ length c.args.program.now.procedures.items = omega (arith, c.args.program.now.procedures.ok) in
    let ks = ap (λ k. take k c.deref.result.now) n ∙ ap (λ xs. take (length c.args.program.now.procedures.items) xs) c.deref.ensures.value in
    moved AreCodeParts _ _ _ _ _ _ (sym c.deref-2.ensures.value) (sym c.deref-3.ensures.value) (sym ks) (code_parts c.args.program.now c.args.emission.now c.requires)

pub told-requires-clause-same : goal.told-requires-clause-same
told-requires-clause-same c =
    let n : c.len.result ≡ length c.args.program.now.procedures.items = omega (arith, c.args.program.now.procedures.ok) in
    let le = enough c.args.program.now c.args.emission.now c.requires in
    let v = ap (λ (xs : List ℕ). length xs) c.deref.ensures.value in
    length-take-le c.len.result c.deref.result.now (omega (arith, n, le, v)) ∙ n

pub returns-clause-all : goal.returns-clause-all
returns-clause-all c =
    let n : c.len.result ≡ length c.args.program.now.procedures.items = omega (arith, c.args.program.now.procedures.ok) in
    let ks = ap (λ k. take k c.deref.result.now) n ∙ ap (λ xs. take (length c.args.program.now.procedures.items) xs) c.deref.ensures.value in
    c.told.ensures.all
    ∙ ap (λ k. min k (2 ^ 64 - 1)) (names_moved c.args.program.now _ _ _ _ _ _ c.deref-2.ensures.value c.deref-3.ensures.value ks
    ∙ told_names c.args.program.now c.args.emission.now c.requires)

pub returns-clause-opened : goal.returns-clause-opened
returns-clause-opened c =
    let n : c.len.result ≡ length c.args.program.now.procedures.items = omega (arith, c.args.program.now.procedures.ok) in
    let ks = ap (λ k. take k c.deref.result.now) n ∙ ap (λ xs. take (length c.args.program.now.procedures.items) xs) c.deref.ensures.value in
    c.told.ensures.opened
    ∙ ap (λ k. min k (2 ^ 64 - 1)) (open_moved _ _ _ _ _ _ c.deref-2.ensures.value c.deref-3.ensures.value ks
    ∙ told_open c.args.program.now c.args.emission.now c.requires)

pub returns-clause-dummies : goal.returns-clause-dummies
returns-clause-dummies c = c.told.ensures.dummies ∙ told_dummies c.args.program.now
