-- Numbers of elements.
use Rattle.std.proofs.Common.{◌≡◌, ℕ, ◌*◌, ◌<◌, ◌≤◌, ◌/◌, Bool, true, false, nat_lt, nat_eq, refl, sym, arith}
use Rattle.std.proofs.lemmas.Bool.{lt-ltb, le-ltb, ltb-true, ltb-false}
use Rattle.std.proofs.lemmas.Bool.Decides.{nat_tests}
use Rattle.std.proofs.lemmas.Nat.{div_below, le-div}

-- a number is below a product exactly where its quotient is below the other factor
pub quotient_below : (k e r : ℕ) → 0 < e → nat_lt (k / e) r ≡ nat_lt k (e * r)
quotient_below k e r some = by (nat_lt k (e * r)) refl
  where
    by : (t : Bool) → nat_lt k (e * r) ≡ t → nat_lt (k / e) r ≡ t
    by true f =
        let lt = ltb-true k (e * r) f in
        let turned : k < r * e = omega arith in
        lt-ltb (k / e) r (div_below k e r some turned)
    by false f =
        let le = ltb-false k (e * r) f in
        let turned : r * e ≤ k = omega arith in
        le-ltb (k / e) r (le-div r k e some turned)

pub below_none : (k r : ℕ) → false ≡ nat_lt k (0 * r)
below_none k r = sym (le-ltb k (0 * r) (omega arith))

pub below_one : (k : ℕ) → nat_eq k 0 ≡ nat_lt k 1
below_one k = by (nat_eq k 0) refl
  where
    by : (t : Bool) → nat_eq k 0 ≡ t → t ≡ nat_lt k 1
    by true f = let e : k ≡ 0 = grind (arith, nat_tests) in sym (lt-ltb k 1 (omega arith))
    by false f = let e : 0 < k = grind (arith, nat_tests) in sym (le-ltb k 1 (omega arith))
