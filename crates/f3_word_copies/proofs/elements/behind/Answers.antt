use Rattle.std.proofs.Common.{◌≡◌, ◌∙◌, ap, sym, subst, rules, ℕ, ◌*◌, ◌%◌, ◌^◌, w64, FitsSigned}
use Rattle.std.specs.Prelude.{pos, ◌*ℤ◌}
use Rattle.std.specs.Int.{cast_unsigned}
use Rattle.std.proofs.lemmas.Int.{to_z-of_z}
use Rattle.f3_desc.specs.Inner.Congruent.{IsCongruent}
use Rattle.f3_desc.proofs.Congruences.{sum-congruent}
use Rattle.f3_room_arrays.proofs.Numbers.{bits-congruent, product-congruent}
use Rattle.f3_word_copies.proofs.elements.behind.Goals as goal

pub returns : goal.returns
returns c =
    let fits : FitsSigned w64 c.args.stride = search rules in
    let is : c.cast_unsigned.result ≡ cast_unsigned w64 c.args.stride = c.cast_unsigned.ensures ∙ ap (cast_unsigned w64) (to_z-of_z w64 c.args.stride fits) in
    let near : IsCongruent (pos c.cast_unsigned.result) c.args.stride = subst (λ (n : ℕ). IsCongruent (pos n) c.args.stride) (sym is) (bits-congruent c.args.stride fits) in
    sum-congruent c.args.at ((c.args.count * c.cast_unsigned.result) % 2 ^ 64) (pos c.args.count *ℤ c.args.stride) (product-congruent c.args.count c.cast_unsigned.result c.args.stride near)
