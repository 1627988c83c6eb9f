use Rattle.std.proofs.Common.{◌≡◌, ◌∙◌, ap, sym, subst, rules, ℕ, ◌+◌, ◌-◌, ◌*◌, ◌%◌, ◌^◌}
use Rattle.std.specs.Prelude.{pos, ◌-ℤ◌, ◌*ℤ◌}
use Rattle.std.specs.Int.{int_wrap, w64, cast_unsigned, cast_signed}
use Rattle.std.proofs.lemmas.Int.{wraps}
use Rattle.f3_desc.proofs.Congruences.{wrapped-bits, sum-congruent}
use Rattle.f3_desc.specs.Inner.Congruent.{IsCongruent}
use Rattle.f3_word_areas.proofs.sections.moved.Goals as goal

pub returns : goal.returns
returns c =
    let d = c.args.dim in
    let z = (c.args.subscript -ℤ d.lower) *ℤ d.stride in
    let apart : ℕ = (cast_unsigned w64 c.args.subscript + (2 ^ 64 - cast_unsigned w64 d.lower)) % 2 ^ 64 in
    let wrapped : cast_signed w64 ((apart * cast_unsigned w64 d.stride) % 2 ^ 64) ≡ int_wrap w64 z = search (rules, wraps) in
    let is : c.cast_unsigned.result ≡ cast_unsigned w64 (int_wrap w64 z) = c.cast_unsigned.ensures ∙ ap (cast_unsigned w64) wrapped in
    sum-congruent c.args.place c.cast_unsigned.result z (subst (λ (n : ℕ). IsCongruent (pos n) z) (sym is) (wrapped-bits z))
