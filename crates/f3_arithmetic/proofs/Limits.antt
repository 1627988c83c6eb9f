-- Whole numbers past the range of the machine are past the range of every kind.
use Rattle.std.proofs.Common.{◌≡◌, ◌≢◌, ℕ, zero, suc, ◌*◌, ◌<◌, ◌≤◌, ◌^◌, ◌%◌, Bool, true, false, ℤ, pos, negsuc, neg_ℤ, unsigned_abs, ◌≤ℤ◌, cond, ltb, eqb, arith, refl, ap, sym, ◌∙◌, ◌⊎◌, inl, inr, int_rem, ◌+ℤ◌, ◌<ℤ◌, nat_abs}
use Rattle.std.proofs.Math.Nat.{pow-suc, pow-le-pow_left, pow-le-pow_right}
use Rattle.std.specs.Int.{w64}
use Rattle.std.specs.Int.RustNames.{FitsSigned}
use Rattle.std.proofs.lemmas.Bool.Decides.{nat_tests}
use Rattle.std.proofs.lemmas.Int.{ints}
use Rattle.f3_places.specs.declared.source.Place.{Place}
use Rattle.f3_meaning_whole.specs.Value.{Value, Number}
use Rattle.f3_meaning_whole.specs.Arithmetic.{fits, converted, divided, is_zero, floor_rem, is_even, raised, power}
use Rattle.f3_meaning_whole.specs.Ran.{Ran, gives, fails}
use Rattle.f3_meaning_whole.specs.declared.run_error.RunError.TheVariants.{Overflow, DivisionByZero}
use Rattle.f3_arithmetic.specs.declared.numbers.Width.{Width}
use Rattle.f3_arithmetic.specs.declared.numbers.Width.TheVariants.{Four, Eight}
use Rattle.f3_arithmetic.specs.Scalars.{base_of, floored}

past : (n m : ℕ) (x y : Ran Value) → (n < 2 ^ 63 → ⊥) → m ≤ 2 ^ 63 → y ≡ cond (ltb n m) x y
past n m x y h le = grind (arith, nat_tests)

pub unfit : (k : Width) (z : ℤ) (place : Place) → (FitsSigned w64 z → ⊥) → fails Overflow place ≡ converted (base_of k) (Number z) place
unfolding converted
unfit Four (pos n) place h = past n (2 ^ 31) _ _ (λ p. h (record { sfits = p })) (omega arith)
unfit Eight (pos n) place h = past n (2 ^ 63) _ _ (λ p. h (record { sfits = p })) (omega arith)
unfit Four (negsuc n) place h = past n (2 ^ 31) _ _ (λ p. h (record { sfits = p })) (omega arith)
unfit Eight (negsuc n) place h = past n (2 ^ 63) _ _ (λ p. h (record { sfits = p })) (omega arith)

pub in_range : (k : Width) (z : ℤ) (place : Place) → true ≡ fits (base_of k) z → gives (Number z) ≡ converted (base_of k) (Number z) place
unfolding converted
in_range k z place is = ap (λ (b : Bool). cond b (gives (Number z)) (fails Overflow place)) is

pub out_of_range : (k : Width) (z : ℤ) (place : Place) → false ≡ fits (base_of k) z → fails Overflow place ≡ converted (base_of k) (Number z) place
unfolding converted
out_of_range k z place is = ap (λ (b : Bool). cond b (gives (Number z)) (fails Overflow place)) is

some_divisor : (n : ℕ) (x y : Ran Value) → y ≡ cond (eqb (suc n) 0) x y
some_divisor n x y = grind (arith, nat_tests)

pub by_zero : (k : Width) (x y : ℤ) (place : Place) → y ≡ pos 0 → fails DivisionByZero place ≡ divided y (base_of k) x place
unfolding divided
by_zero k x (pos zero) place is = refl
by_zero k x (pos (suc n)) place is = cc
by_zero k x (negsuc n) place is = cc

pub by_some : (k : Width) (x y : ℤ) (place : Place) → y ≢ pos 0 → converted (base_of k) (Number x) place ≡ divided y (base_of k) x place
unfolding divided
by_some k x (pos zero) place is = absurd (is refl)
by_some k x (pos (suc n)) place is = some_divisor n _ _
by_some k x (negsuc n) place is = refl

-- ---- powers

one_pow : (n : ℕ) → 1 ^ n ≡ 1
one_pow zero = refl
one_pow (suc n) = pow-suc 1 n ∙ ap (λ m. m * 1) (one_pow n)

zero_pow : (n : ℕ) → 0 < n → 0 ^ n ≡ 0
zero_pow zero h = absurd (omega arith)
zero_pow (suc n) h = pow-suc 0 n ∙ omega arith

even_one : (m x : ℕ) (b : Bool) → x ≡ 1 → b ≡ true → pos 1 ≡ cond b (pos x) (neg_ℤ (pos x))
even_one m x b e t = cc

odd_one : (m x : ℕ) (b : Bool) → x ≡ 1 → b ≡ false → negsuc 0 ≡ cond b (pos x) (neg_ℤ (pos x))
odd_one m x b e t = cc

pub even_power : (m : ℕ) → m % 2 ≡ 0 → pos 1 ≡ raised (negsuc 0) m
even_power m h = even_one m (1 ^ m) (eqb (m % 2) 0) (one_pow m) (grind (arith, nat_tests))

pub odd_power : (m : ℕ) → m % 2 ≢ 0 → negsuc 0 ≡ raised (negsuc 0) m
odd_power m h = odd_one m (1 ^ m) (eqb (m % 2) 0) (one_pow m) (grind (arith, nat_tests))

-- a power past every range
large_pow : (a n : ℕ) → 64 ≤ n → 2 ^ 64 ≤ suc (suc a) ^ n
large_pow a n le = omega (arith, pow-le-pow_left {n = 2} {m = suc (suc a)} (omega arith) n, pow-le-pow_right {n = 2} (omega arith) {i = 64} {j = n} le)

-- numbers that lie in the range of each kind
unit_fits : (k : Width) (z : ℤ) → (z ≡ pos 0) ⊎ ((z ≡ pos 1) ⊎ (z ≡ negsuc 0)) → true ≡ fits (base_of k) z
unit_fits Four z (inl is) = ap (fits (base_of Four)) (sym is)
unit_fits Eight z (inl is) = ap (fits (base_of Eight)) (sym is)
unit_fits Four z (inr (inl is)) = ap (fits (base_of Four)) (sym is)
unit_fits Eight z (inr (inl is)) = ap (fits (base_of Eight)) (sym is)
unit_fits Four z (inr (inr is)) = ap (fits (base_of Four)) (sym is)
unit_fits Eight z (inr (inr is)) = ap (fits (base_of Eight)) (sym is)

signed_unit : (b : Bool) (x : ℕ) → x ≡ 1 → (cond b (pos x) (neg_ℤ (pos x)) ≡ pos 0) ⊎ ((cond b (pos x) (neg_ℤ (pos x)) ≡ pos 1) ⊎ (cond b (pos x) (neg_ℤ (pos x)) ≡ negsuc 0))
signed_unit true x is = inr (inl (ap pos is))
signed_unit false x is = inr (inr (ap (λ n. neg_ℤ (pos n)) is))

-- powers of -1, 0 and 1, and of all else
pub high_zero : (k : Width) (x e : ℤ) (place : Place) → x ≡ pos 0 → pos 64 ≤ℤ e → gives (Number (pos 0)) ≡ power x e (base_of k) place
high_zero k x (pos n) place is le = in_range k (pos 0) place (unit_fits k _ (inl refl))
    ∙ ap (λ m. converted (base_of k) (Number (pos m)) place) (sym (zero_pow n (omega (arith, ints)))) ∙ ap (λ y. power y (pos n) (base_of k) place) (sym is)
high_zero k x (negsuc n) place is le = absurd (omega (arith, ints))

pub high_one : (k : Width) (x e : ℤ) (place : Place) → x ≡ pos 1 → pos 64 ≤ℤ e → gives (Number (pos 1)) ≡ power x e (base_of k) place
high_one k x (pos n) place is le = in_range k (pos 1) place (unit_fits k _ (inr (inl refl)))
    ∙ ap (λ m. converted (base_of k) (Number (pos m)) place) (sym (one_pow n)) ∙ ap (λ y. power y (pos n) (base_of k) place) (sym is)
high_one k x (negsuc n) place is le = absurd (omega (arith, ints))

pub high_minus : (k : Width) (x e r : ℤ) (place : Place) → x ≡ negsuc 0 → pos 64 ≤ℤ e → r ≡ raised (negsuc 0) (unsigned_abs e) → gives (Number r) ≡ power x e (base_of k) place
high_minus k x (pos n) r place is le s = ap (λ (z : ℤ). gives (Number z)) s
    ∙ in_range k (raised (negsuc 0) n) place (unit_fits k _ (signed_unit (is_even n) (1 ^ n) (one_pow n))) ∙ ap (λ y. power y (pos n) (base_of k) place) (sym is)
high_minus k x (negsuc n) r place is le s = absurd (omega (arith, ints))

past_sign : (b : Bool) (x : ℕ) → 2 ^ 64 ≤ x → FitsSigned w64 (cond b (pos x) (neg_ℤ (pos x))) → ⊥
past_sign true x le f = omega (arith, f.sfits)
past_sign false zero le f = omega arith
past_sign false (suc x) le f = omega (arith, f.sfits)

pub high_other : (k : Width) (x e : ℤ) (place : Place) → x ≢ pos 0 → x ≢ pos 1 → x ≢ negsuc 0 → pos 64 ≤ℤ e → fails Overflow place ≡ power x e (base_of k) place
high_other k x (negsuc n) place a b c le = absurd (omega (arith, ints))
high_other k (pos zero) (pos n) place a b c le = absurd (a refl)
high_other k (pos (suc zero)) (pos n) place a b c le = absurd (b refl)
high_other k (pos (suc (suc x))) (pos n) place a b c le = unfit k _ place (λ f. past_sign true (suc (suc x) ^ n) (large_pow x n (omega (arith, ints))) f)
high_other k (negsuc zero) (pos n) place a b c le = absurd (c refl)
high_other k (negsuc (suc x)) (pos n) place a b c le = unfit k _ place (λ f. past_sign (is_even n) (suc (suc x) ^ n) (large_pow x n (omega (arith, ints))) f)

-- ---- remainders

pub zero_is : (z : ℤ) → z ≡ pos 0 → true ≡ is_zero z
zero_is z is = ap is_zero (sym is)

none_is : (n : ℕ) → false ≡ eqb (suc n) 0
none_is n = grind (arith, nat_tests)

pub other_is : (z : ℤ) → z ≢ pos 0 → false ≡ is_zero z
other_is (pos zero) is = absurd (is refl)
other_is (pos (suc n)) is = none_is n
other_is (negsuc n) is = refl

pub floor_zero : (x y : ℤ) → int_rem x y ≡ pos 0 → pos 0 ≡ floor_rem x y
floor_zero x y is = ap (λ (b : Bool). cond b (pos 0) (floored x y)) (zero_is (int_rem x y) is)

pub floor_other : (x y : ℤ) → int_rem x y ≢ pos 0 → floored x y ≡ floor_rem x y
floor_other x y is = ap (λ (b : Bool). cond b (pos 0) (floored x y)) (other_is (int_rem x y) is)

pub absolute_negative : (z : ℤ) → z <ℤ pos 0 → neg_ℤ z ≡ pos (nat_abs z)
absolute_negative (pos n) h = absurd (omega (arith, ints))
absolute_negative (negsuc n) h = refl

pub absolute_other : (z : ℤ) → (z <ℤ pos 0 → ⊥) → z ≡ pos (nat_abs z)
absolute_other (pos n) h = refl
absolute_other (negsuc n) h = absurd (h (omega (arith, ints)))

pub floor_made : (k : Width) (x y : ℤ) (place : Place) (made : Ran Value) → y ≢ pos 0 → int_rem x y ≢ pos 0
    → made ≡ converted (base_of k) (Number (floored x y)) place → made ≡ divided y (base_of k) (floor_rem x y) place
floor_made k x y place made some left is = is ∙ ap (λ z. converted (base_of k) (Number z) place) (floor_other x y left) ∙ by_some k (floor_rem x y) y place some
