-- Numbers up to multiples of 2 ^ 64.
use Rattle.std.proofs.Common.{◌≡◌, ℕ, ◌+◌, ◌*◌, ◌-◌, ◌%◌, ◌^◌, sym, ap, ◌∙◌, arith}
use Rattle.std.proofs.Math.Nat.{add-mod-mod}
use Rattle.std.proofs.lemmas.Nat.{mul-mod, mul-mod_second, mul-mod_first}

-- sums, products and remainders of remainders

pub sum_right : (a b : ℕ) → (a + b % 2 ^ 64) % 2 ^ 64 ≡ (a + b) % 2 ^ 64
sum_right a b = add-mod-mod a b (2 ^ 64)

pub sum_left : (a b : ℕ) → (a % 2 ^ 64 + b) % 2 ^ 64 ≡ (a + b) % 2 ^ 64
sum_left a b = omega arith

pub sum_both : (a b : ℕ) → (a % 2 ^ 64 + b % 2 ^ 64) % 2 ^ 64 ≡ (a + b) % 2 ^ 64
sum_both a b = omega arith

-- sums and products of numbers that agree
pub same_sum : (a b c d : ℕ) → a % 2 ^ 64 ≡ b % 2 ^ 64 → c % 2 ^ 64 ≡ d % 2 ^ 64 → (a + c) % 2 ^ 64 ≡ (b + d) % 2 ^ 64
same_sum a b c d e f = omega arith

pub same_product : (a b c d : ℕ) → a % 2 ^ 64 ≡ b % 2 ^ 64 → c % 2 ^ 64 ≡ d % 2 ^ 64 → (a * c) % 2 ^ 64 ≡ (b * d) % 2 ^ 64
same_product a b c d e f = mul-mod a c (2 ^ 64) ∙ ap (λ n. (n * (c % 2 ^ 64)) % 2 ^ 64) e ∙ ap (λ n. (b % 2 ^ 64 * n) % 2 ^ 64) f ∙ sym (mul-mod b d (2 ^ 64))

-- what was added on both sides
pub same_rest : (a b c : ℕ) → (a + c) % 2 ^ 64 ≡ (b + c) % 2 ^ 64 → a % 2 ^ 64 ≡ b % 2 ^ 64
same_rest a b c e = omega arith

pub once : (a : ℕ) → a % 2 ^ 64 % 2 ^ 64 ≡ a % 2 ^ 64
once a = omega arith

pub product_right : (a b : ℕ) → (a * (b % 2 ^ 64)) % 2 ^ 64 ≡ (a * b) % 2 ^ 64
product_right a b = mul-mod_second a b (2 ^ 64)

pub product_left : (a b : ℕ) → (a % 2 ^ 64 * b) % 2 ^ 64 ≡ (a * b) % 2 ^ 64
product_left a b = mul-mod_first a b (2 ^ 64)

-- a difference, with what was taken away
pub difference : (a b : ℕ) → (a % 2 ^ 64 + (2 ^ 64 - b % 2 ^ 64) + b) % 2 ^ 64 ≡ a % 2 ^ 64
difference a b = omega arith

pub ruleset modulo = (once, sum_left, sum_right, product_left, product_right)
