-- Whole numbers past the range of the machine are past the range of every kind.
use Rattle.std.proofs.Common.{◌≡◌, ◌≢◌, ℕ, zero, suc, ◌*◌, ◌<◌, ◌≤◌, ◌^◌, ◌%◌, Bool, true, false, None, Some, ℤ, pos, negsuc, neg_ℤ, unsigned_abs, ◌≤ℤ◌, cond, ltb, eqb, arith, refl, ap, sym, ◌∙◌}
use Rattle.std.proofs.Math.Nat.{pow-suc, pow-le-pow_left, pow-le-pow_right}
use Rattle.std.specs.Int.{w64}
use Rattle.std.specs.Int.RustNames.{FitsSigned}
use Rattle.std.proofs.lemmas.Bool.Decides.{nat_tests}
use Rattle.std.proofs.lemmas.Int.{ints}
use Rattle.f3_tree.specs.declared.expression.IntegerKind.{IntegerKind}
use Rattle.f3_tree.specs.declared.expression.IntegerKind.TheVariants.{Four, Eight}
use Rattle.f3_kinds.specs.declared.types.Scalar.{Scalar}
use Rattle.f3_kinds.specs.declared.types.Scalar.TheVariants.{Number}
use Rattle.f3_kinds.specs.Values.{is_even, number, raised, power}

past : (k : IntegerKind) (n : ℕ) (m : ℕ) (x : Scalar) → (n < 2 ^ 63 → ⊥) → m ≤ 2 ^ 63 → None ≡ cond (ltb n m) (Some x) None
past k n m x h le = grind (arith, nat_tests)

pub number_unfit : (k : IntegerKind) (z : ℤ) → (FitsSigned w64 z → ⊥) → None ≡ number k z
number_unfit Four (pos n) h = past Four n (2 ^ 31) _ (λ p. h (record { sfits = p })) (omega arith)
number_unfit Eight (pos n) h = past Eight n (2 ^ 63) _ (λ p. h (record { sfits = p })) (omega arith)
number_unfit Four (negsuc n) h = past Four n (2 ^ 31) _ (λ p. h (record { sfits = p })) (omega arith)
number_unfit Eight (negsuc n) h = past Eight n (2 ^ 63) _ (λ p. h (record { sfits = p })) (omega arith)

-- ---- powers

one_pow : (n : ℕ) → 1 ^ n ≡ 1
one_pow zero = refl
one_pow (suc n) = pow-suc 1 n ∙ ap (λ m. m * 1) (one_pow n)

zero_pow : (n : ℕ) → 0 < n → 0 ^ n ≡ 0
zero_pow zero h = absurd (omega arith)
zero_pow (suc n) h = pow-suc 0 n ∙ omega arith

even_one : (m x : ℕ) (b : Bool) → x ≡ 1 → b ≡ true → pos 1 ≡ cond b (pos x) (neg_ℤ (pos x))
even_one m x b e t = cc

odd_one : (m x : ℕ) (b : Bool) → x ≡ 1 → b ≡ false → negsuc 0 ≡ cond b (pos x) (neg_ℤ (pos x))
odd_one m x b e t = cc

pub even_power : (m : ℕ) → m % 2 ≡ 0 → pos 1 ≡ raised (negsuc 0) m
even_power m h = even_one m (1 ^ m) (eqb (m % 2) 0) (one_pow m) (grind (arith, nat_tests))

pub odd_power : (m : ℕ) → m % 2 ≢ 0 → negsuc 0 ≡ raised (negsuc 0) m
odd_power m h = odd_one m (1 ^ m) (eqb (m % 2) 0) (one_pow m) (grind (arith, nat_tests))

-- a power past every range
large_pow : (a n : ℕ) → 64 ≤ n → 2 ^ 64 ≤ suc (suc a) ^ n
large_pow a n le = omega (arith, pow-le-pow_left {n = 2} {m = suc (suc a)} (omega arith) n, pow-le-pow_right {n = 2} (omega arith) {i = 64} {j = n} le)

-- numbers that lie in the range of each kind
number_zero : (k : IntegerKind) → Some (Number k (pos 0)) ≡ number k (pos 0)
number_zero Four = refl
number_zero Eight = refl

number_one : (k : IntegerKind) → Some (Number k (pos 1)) ≡ number k (pos 1)
number_one Four = refl
number_one Eight = refl

number_minus : (k : IntegerKind) → Some (Number k (negsuc 0)) ≡ number k (negsuc 0)
number_minus Four = refl
number_minus Eight = refl

number_unit : (k : IntegerKind) (x : ℕ) (b : Bool) → x ≡ 1 → Some (Number k (cond b (pos x) (neg_ℤ (pos x)))) ≡ number k (cond b (pos x) (neg_ℤ (pos x)))
number_unit k x true e = ap (λ (z : ℤ). Some (Number k z)) (ap pos e) ∙ number_one k ∙ ap (λ y. number k (pos y)) (sym e)
number_unit k x false e = ap (λ y. Some (Number k (neg_ℤ (pos y)))) e ∙ number_minus k ∙ ap (λ y. number k (neg_ℤ (pos y))) (sym e)

-- powers of -1, 0 and 1, and of all else
pub high_zero : (k : IntegerKind) (x e : ℤ) → x ≡ pos 0 → pos 64 ≤ℤ e → Some (Number k (pos 0)) ≡ power k x e
high_zero k x (pos n) is le = number_zero k ∙ ap (λ m. number k (pos m)) (sym (zero_pow n (omega (arith, ints)))) ∙ ap (λ y. power k y (pos n)) (sym is)
high_zero k x (negsuc n) is le = absurd (omega (arith, ints))

pub high_one : (k : IntegerKind) (x e : ℤ) → x ≡ pos 1 → pos 64 ≤ℤ e → Some (Number k (pos 1)) ≡ power k x e
high_one k x (pos n) is le = number_one k ∙ ap (λ m. number k (pos m)) (sym (one_pow n)) ∙ ap (λ y. power k y (pos n)) (sym is)
high_one k x (negsuc n) is le = absurd (omega (arith, ints))

pub high_minus : (k : IntegerKind) (x e r : ℤ) → x ≡ negsuc 0 → pos 64 ≤ℤ e → r ≡ raised (negsuc 0) (unsigned_abs e) → Some (Number k r) ≡ power k x e
high_minus k x (pos n) r is le s = ap (λ (z : ℤ). Some (Number k z)) s ∙ number_unit k (1 ^ n) (is_even n) (one_pow n) ∙ ap (λ y. power k y (pos n)) (sym is)
high_minus k x (negsuc n) r is le s = absurd (omega (arith, ints))

past_sign : (b : Bool) (x : ℕ) → 2 ^ 64 ≤ x → FitsSigned w64 (cond b (pos x) (neg_ℤ (pos x))) → ⊥
past_sign true x le f = omega (arith, f.sfits)
past_sign false zero le f = omega arith
past_sign false (suc x) le f = omega (arith, f.sfits)

pub high_other : (k : IntegerKind) (x e : ℤ) → x ≢ pos 0 → x ≢ pos 1 → x ≢ negsuc 0 → pos 64 ≤ℤ e → None ≡ power k x e
high_other k x (negsuc n) a b c le = absurd (omega (arith, ints))
high_other k (pos zero) (pos n) a b c le = absurd (a refl)
high_other k (pos (suc zero)) (pos n) a b c le = absurd (b refl)
high_other k (pos (suc (suc x))) (pos n) a b c le = number_unfit k _ (λ f. past_sign true (suc (suc x) ^ n) (large_pow x n (omega (arith, ints))) f)
high_other k (negsuc zero) (pos n) a b c le = absurd (c refl)
high_other k (negsuc (suc x)) (pos n) a b c le = number_unfit k _ (λ f. past_sign (is_even n) (suc (suc x) ^ n) (large_pow x n (omega (arith, ints))) f)
