-- How many subscripts a triplet selects, and which is the last.
use Rattle.std.proofs.Common.{◌<◌, ◌≤◌, ◌≡◌, ◌∙◌, sym, ap, subst, refl, ℕ, zero, suc, ◌+◌, ◌*◌, ◌/◌, ◌%◌, arith}
use Rattle.std.proofs.Math.Nat.{add-div_right, div-eq_of_lt, div_self, le-div_iff_mul-le}
use Rattle.std.specs.Prelude.{◌↔◌, ◌*ℤ◌, ℤ, pos, negsuc, neg_ℤ, ◌+ℤ◌, ◌-ℤ◌, ◌≤ℤ◌, ◌<ℤ◌, unsigned_abs, int_div}
use Rattle.std.proofs.lemmas.Int.{ints, by_lt_z}
use Rattle.std.proofs.Math.IntN.{+ℤ_idl}
use Rattle.std.proofs.lemmas.Nat.{div-add-mod'}
use Rattle.f3_desc.specs.Section.{at_least_zero, count}
use Rattle.f3_desc.specs.Inner.Cuts.{EndsAt}
use Rattle.f3_desc.specs.Laws.{CountsSteps}

-- the count by what is between the first number and the second
gives : ℤ → ℤ → ℕ
gives z step = at_least_zero (int_div (z +ℤ step) step)

none_below : (n : ℕ) → at_least_zero (neg_ℤ (pos n)) ≡ 0
none_below zero = refl
none_below (suc n) = refl

-- the numbers below the first step count for none
small_up : (y : ℤ) (k : ℕ) → y <ℤ pos (suc k) → at_least_zero (int_div y (pos (suc k))) ≡ 0
small_up (pos n) k h = div-eq_of_lt (omega (arith, ints))
small_up (negsuc n) k h = none_below (suc n / suc k)

small_down : (y : ℤ) (k : ℕ) → negsuc k <ℤ y → at_least_zero (int_div y (negsuc k)) ≡ 0
small_down (pos n) k h = none_below (n / suc k)
small_down (negsuc n) k h = div-eq_of_lt (omega (arith, ints))

gives-up : (d k : ℕ) → gives (pos d) (pos (suc k)) ≡ d / suc k + 1
unfolding gives
gives-up d k = add-div_right d (omega arith)

gives-down : (d k : ℕ) → gives (neg_ℤ (pos d)) (negsuc k) ≡ d / suc k + 1
unfolding gives
gives-down zero k = ap (λ (z : ℤ). at_least_zero (int_div z (negsuc k))) (+ℤ_idl (negsuc k)) ∙ div_self {n = suc k} (omega arith) ∙ sym (ap (λ (n : ℕ). n + 1) (div-eq_of_lt {n = 0} {m = suc k} (omega arith)))
gives-down (suc d) k = ap (λ (n : ℕ). n / suc k) (omega arith) ∙ add-div_right (suc d) (omega arith)

count-up : (from to : ℤ) (d k : ℕ) → to -ℤ from ≡ pos d → count from to (pos (suc k)) ≡ d / suc k + 1
unfolding gives
count-up from to d k e = ap (λ (z : ℤ). gives z (pos (suc k))) e ∙ gives-up d k

count-down : (from to : ℤ) (d k : ℕ) → to -ℤ from ≡ neg_ℤ (pos d) → count from to (negsuc k) ≡ d / suc k + 1
unfolding gives
count-down from to d k e = ap (λ (z : ℤ). gives z (negsuc k)) e ∙ gives-down d k

pub none-up : (from to step : ℤ) → pos 0 <ℤ step → to <ℤ from → count from to step ≡ 0
none-up from to (pos zero) p h = absurd (omega (arith, ints))
none-up from to (pos (suc k)) p h = small_up ((to -ℤ from) +ℤ pos (suc k)) k (omega (arith, ints))
none-up from to (negsuc k) p h = absurd (omega (arith, ints))

pub none-down : (from to step : ℤ) → step <ℤ pos 0 → from <ℤ to → count from to step ≡ 0
none-down from to (pos k) p h = absurd (omega (arith, ints))
none-down from to (negsuc k) p h = small_down ((to -ℤ from) +ℤ negsuc k) k (omega (arith, ints))

-- z is the distance down to it
abs-up : (z : ℤ) → pos 0 ≤ℤ z → z ≡ pos (unsigned_abs z)
abs-up (pos n) h = refl
abs-up (negsuc n) h = absurd (omega (arith, ints))

abs-down : (z : ℤ) → z ≤ℤ pos 0 → z ≡ neg_ℤ (pos (unsigned_abs z))
abs-down (pos zero) h = refl
abs-down (pos (suc n)) h = absurd (omega (arith, ints))
abs-down (negsuc n) h = refl

pub ends-up : (from to step last : ℤ) (d k : ℕ) → d ≡ unsigned_abs (from -ℤ to) → k ≡ unsigned_abs step → pos 0 <ℤ step → from ≤ℤ to → last ≡ to -ℤ pos (d % k) → EndsAt from to step last
ends-up from to (pos zero) last d k far size p h e = absurd (omega (arith, ints))
ends-up from to (pos (suc n)) last d k far size p h e =
    let is : to -ℤ from ≡ pos d = omega (arith, ints, abs-up (to -ℤ from) (omega (arith, ints))) in
    let split : d / suc n * suc n + d % k ≡ d = subst (λ (m : ℕ). d / suc n * suc n + d % m ≡ d) (sym size) (div-add-mod' d (suc n)) in
    record { steps = d / suc n; many = count-up from to d n is; last_is = omega (arith, ints) }
ends-up from to (negsuc n) last d k far size p h e = absurd (omega (arith, ints))

pub ends-down : (from to step last : ℤ) (d k : ℕ) → d ≡ unsigned_abs (from -ℤ to) → k ≡ unsigned_abs step → step <ℤ pos 0 → to ≤ℤ from → last ≡ to +ℤ pos (d % k) → EndsAt from to step last
ends-down from to (pos n) last d k far size p h e = absurd (omega (arith, ints))
ends-down from to (negsuc n) last d k far size p h e =
    let is : to -ℤ from ≡ neg_ℤ (pos d) = omega (arith, ints, abs-down (to -ℤ from) (omega (arith, ints))) in
    let split : d / suc n * suc n + d % k ≡ d = subst (λ (m : ℕ). d / suc n * suc n + d % m ≡ d) (sym size) (div-add-mod' d (suc n)) in
    record { steps = d / suc n; many = count-down from to d n is; last_is = omega (arith, ints) }

-- the numbers that are selected are those not past the second
reach-up : (from to : ℤ) (k j : ℕ) → from ≤ℤ to → (j < count from to (pos (suc k))) ↔ ((from +ℤ (pos j *ℤ pos (suc k))) ≤ℤ to)
reach-up from to k j h =
    let d = unsigned_abs (to -ℤ from) in
    let is : to -ℤ from ≡ pos d = abs-up (to -ℤ from) (omega (arith, ints)) in
    let many = count-up from to d k is in
    let fits = le-div_iff_mul-le {k = suc k} {x = j} {y = d} (omega arith) in (
      λ l. let near = fits.0 (omega arith) in omega (arith, ints),
      λ l. let near : j * suc k ≤ d = omega (arith, ints) in omega (arith, fits.1 near),
    )

reach-down : (from to : ℤ) (k j : ℕ) → to ≤ℤ from → (j < count from to (negsuc k)) ↔ (to ≤ℤ (from +ℤ (pos j *ℤ negsuc k)))
reach-down from to k j h =
    let d = unsigned_abs (to -ℤ from) in
    let is : to -ℤ from ≡ neg_ℤ (pos d) = abs-down (to -ℤ from) (omega (arith, ints)) in
    let many = count-down from to d k is in
    let fits = le-div_iff_mul-le {k = suc k} {x = j} {y = d} (omega arith) in (
      λ l. let near = fits.0 (omega arith) in omega (arith, ints),
      λ l. let near : j * suc k ≤ d = omega (arith, ints) in omega (arith, fits.1 near),
    )

pub counts-steps : CountsSteps
counts-steps from to (pos zero) nonzero j = absurd (nonzero refl)
counts-steps from to (pos (suc k)) nonzero j =
    let low : pos 0 <ℤ pos (suc k) = omega (arith, ints) in
    by_lt_z to from
    (λ h. let none = none-up from to (pos (suc k)) low h in
    (λ l. absurd (omega arith), λ l. let near = l.0 low in absurd (omega (arith, ints))))
    (λ h. let r = reach-up from to k j h in
    (λ l. (λ _. r.0 l, λ m. absurd (omega (arith, ints))), λ l. r.1 (l.0 low)))
counts-steps from to (negsuc k) nonzero j =
    let low : negsuc k <ℤ pos 0 = omega (arith, ints) in
    by_lt_z from to
    (λ h. let none = none-down from to (negsuc k) low h in
    (λ l. absurd (omega arith), λ l. let near = l.1 low in absurd (omega (arith, ints))))
    (λ h. let r = reach-down from to k j h in
    (λ l. (λ m. absurd (omega (arith, ints)), λ _. r.0 l), λ l. r.1 (l.1 low)))
