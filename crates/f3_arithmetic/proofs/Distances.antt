-- Turns, counted by distances.
use Rattle.std.proofs.Common.{◌≡◌, ◌≢◌, ℕ, zero, suc, ◌+◌, ◌/◌, ◌<◌, ◌≤◌, ℤ, pos, negsuc, neg_ℤ, unsigned_abs, int_div, ◌+ℤ◌, ◌-ℤ◌, ◌<ℤ◌, ◌≤ℤ◌, arith, refl, ap, sym, ◌∙◌}
use Rattle.std.proofs.Math.Nat.{add-div_right, div-eq_of_lt}
use Rattle.std.proofs.lemmas.Int.{ints}
use Rattle.f3_meaning_whole.specs.Arithmetic.{natural, trips}

-- how often from a distance and a step
abbrev counted : ℤ → ℤ → ℕ
counted z s = natural (int_div (z +ℤ s) s)

no_negative : (x : ℕ) → 0 ≡ natural (neg_ℤ (pos x))
no_negative zero = refl
no_negative (suc x) = refl

above : (z s : ℤ) → pos 0 <ℤ s → pos 0 ≤ℤ z → suc (unsigned_abs z / unsigned_abs s) ≡ counted z s
above (pos d) (pos zero) up le = absurd (omega (arith, ints))
above (pos d) (pos (suc k)) up le = sym (add-div_right d {k = suc k} (omega arith) ∙ omega arith)
above (negsuc d) s up le = absurd (omega (arith, ints))
above (pos d) (negsuc k) up le = absurd (omega (arith, ints))

short : (w s : ℤ) → pos 0 <ℤ s → w <ℤ s → 0 ≡ natural (int_div w s)
short (pos m) (pos (suc k)) up lt = sym (div-eq_of_lt (omega (arith, ints)))
short (negsuc m) (pos (suc k)) up lt = no_negative (suc m / suc k)
short w (pos zero) up lt = absurd (omega (arith, ints))
short w (negsuc k) up lt = absurd (omega (arith, ints))

nothing_more : (k : ℕ) → pos 0 +ℤ negsuc k ≡ negsuc k
nothing_more k = omega (arith, ints)

below : (z s : ℤ) → s <ℤ pos 0 → z ≤ℤ pos 0 → suc (unsigned_abs z / unsigned_abs s) ≡ counted z s
below z (pos k) down le = absurd (omega (arith, ints))
below (pos (suc d)) (negsuc k) down le = absurd (omega (arith, ints))
below (pos zero) (negsuc k) down le = sym (ap (λ w. natural (int_div w (negsuc k))) (nothing_more k) ∙ ap (λ n. n / suc k) {x = suc k} {y = 0 + suc k} (omega arith) ∙ add-div_right 0 {k = suc k} (omega arith) ∙ omega arith)
below (negsuc d) (negsuc k) down le = sym (ap (λ n. n / suc k) (omega arith) ∙ add-div_right (suc d) {k = suc k} (omega arith) ∙ omega arith)

shallow : (w s : ℤ) → s <ℤ pos 0 → s <ℤ w → 0 ≡ natural (int_div w s)
shallow w (pos k) down lt = absurd (omega (arith, ints))
shallow (pos m) (negsuc k) down lt = no_negative (m / suc k)
shallow (negsuc m) (negsuc k) down lt = sym (div-eq_of_lt (omega (arith, ints)))

turned : (x y : ℤ) → (x ≤ℤ y → ⊥) → y <ℤ x
turned x y not_le = grind (arith, ints)

negative : (s : ℤ) → s ≢ pos 0 → (pos 0 <ℤ s → ⊥) → s <ℤ pos 0
negative (pos zero) some not_up = absurd (some refl)
negative (pos (suc k)) some not_up = absurd (not_up (omega (arith, ints)))
negative (negsuc k) some not_up = omega (arith, ints)

pub upward : (l u s : ℤ) → pos 0 <ℤ s → l ≤ℤ u → suc (unsigned_abs (u -ℤ l) / unsigned_abs s) ≡ trips l u s
upward l u s up le = above (u -ℤ l) s up (omega (arith, ints))

pub no_way_up : (l u s : ℤ) → pos 0 <ℤ s → (l ≤ℤ u → ⊥) → 0 ≡ trips l u s
no_way_up l u s up le = short ((u -ℤ l) +ℤ s) s up (omega (arith, ints, turned l u le))

pub downward : (l u s : ℤ) → s ≢ pos 0 → (pos 0 <ℤ s → ⊥) → u ≤ℤ l → suc (unsigned_abs (u -ℤ l) / unsigned_abs s) ≡ trips l u s
downward l u s some up le = below (u -ℤ l) s (negative s some up) (omega (arith, ints))

pub no_way_down : (l u s : ℤ) → s ≢ pos 0 → (pos 0 <ℤ s → ⊥) → (u ≤ℤ l → ⊥) → 0 ≡ trips l u s
no_way_down l u s some up le = shallow ((u -ℤ l) +ℤ s) s (negative s some up) (omega (arith, ints, turned u l le))
