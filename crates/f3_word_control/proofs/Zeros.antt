-- Whether a number is 0.
use Rattle.std.proofs.Common.{◌≡◌, ℤ, pos, negsuc, ◌<◌, eqb, refl, arith}
use mir.Syntax.{w64}
use mir.Val.{SFits, of_z}
use Rattle.std.proofs.lemmas.Int.{ints}
use Rattle.std.proofs.lemmas.Bool.Decides.{nat_tests}
use Rattle.f3_meaning_whole.specs.Arithmetic.{is_zero}

pub zero_test : (z : ℤ) → SFits w64 z → eqb (of_z w64 z) 0 ≡ is_zero z
zero_test (pos n) fits = refl
zero_test (negsuc n) fits =
    let small : n < 9223372036854775808 = omega (arith, ints) in
    grind (arith, nat_tests)
