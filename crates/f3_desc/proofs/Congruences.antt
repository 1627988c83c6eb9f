-- Numbers up to multiples of 2 ^ 64, and products of sums.
use Rattle.std.proofs.Common.{◌≡◌, sym, ap, subst, ℕ, ◌+◌, ◌*◌, ◌/◌, ◌%◌, ◌^◌, ◌<◌, arith}
use Rattle.std.specs.Prelude.{ℤ, pos, negsuc, neg_ℤ, ◌+ℤ◌, ◌*ℤ◌, ◌≤ℤ◌, ◌<ℤ◌, unsigned_abs}
use Rattle.std.specs.Int.{int_wrap, int_rem_euclid, w64, cast_unsigned}
use Rattle.std.proofs.lemmas.Int.{ints, of_z-to_z}
use borrow.Author.Differences.{up, down}
use Rattle.f3_desc.specs.Inner.Congruent.{IsCongruent}

pub mul-add : (a b c : ℤ) → (a +ℤ b) *ℤ c ≡ (a *ℤ c) +ℤ (b *ℤ c)
mul-add a b c =
    let sum : up (a +ℤ b) + (down a + down b) ≡ (up a + up b) + down (a +ℤ b) = omega (arith, ints) in
    let above = ap (λ (x : ℕ). x * up c) sum in
    let below = ap (λ (x : ℕ). x * down c) sum in
    omega (arith, ints)

pub congruent-trans : {x y z : ℤ} → IsCongruent x y → IsCongruent y z → IsCongruent x z
congruent-trans {x} {y} {z} a b = record { turns = a.turns +ℤ b.turns; same = omega (arith, ints) }

pub congruent-add : {x y : ℤ} → IsCongruent x y → (z : ℤ) → IsCongruent (x +ℤ z) (y +ℤ z)
congruent-add {x} {y} a z = record { turns = a.turns; same = omega (arith, ints) }

-- two congruent numbers of 64 bits are equal
pub congruent-exact : (n : ℕ) (z : ℤ) → IsCongruent (pos n) z → n < 2 ^ 64 → pos 0 ≤ℤ z → z <ℤ pos (2 ^ 63) → pos n ≡ z
congruent-exact n z c f low high = omega (arith, ints)

-- the bits of a number
bits_of : ℤ → ℕ
bits_of z = unsigned_abs (int_rem_euclid z (pos (2 ^ 64)))

bits_of-small : (z : ℤ) → bits_of z < 2 ^ 64
unfolding bits_of
bits_of-small (pos a) = omega arith
bits_of-small (negsuc a) = omega arith

bits_of-congruent : (z : ℤ) → IsCongruent (pos (bits_of z)) z
unfolding bits_of
bits_of-congruent (pos a) = record { turns = neg_ℤ (pos (a / 2 ^ 64)); same = omega (arith, ints) }
bits_of-congruent (negsuc a) = record { turns = pos (a / 2 ^ 64 + 1); same = omega (arith, ints) }

pub wrapped-bits : (z : ℤ) → IsCongruent (pos (cast_unsigned w64 (int_wrap w64 z))) z
unfolding int_wrap bits_of
wrapped-bits z = subst (λ (n : ℕ). IsCongruent (pos n) z) (sym (of_z-to_z w64 (bits_of z) (bits_of-small z))) (bits_of-congruent z)

pub sum-congruent : (p b : ℕ) (z : ℤ) → IsCongruent (pos b) z → IsCongruent (pos ((p + b) % 2 ^ 64)) (pos p +ℤ z)
sum-congruent p b z c = record { turns = c.turns +ℤ neg_ℤ (pos ((p + b) / 2 ^ 64)); same = omega (arith, ints) }
