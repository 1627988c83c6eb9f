-- How often a DO turns.
use Rattle.std.proofs.Common.{◌≡◌, suc, ℤ, pos, negsuc, neg_ℤ, int_div, sym, ap}
use Rattle.std.proofs.Math.Nat.{div-zero}
use Rattle.std.specs.Prelude.{◌+ℤ◌, ◌-ℤ◌}
use Rattle.f3_meaning_whole.specs.Arithmetic.{natural, trips}

by_none : (z : ℤ) → natural (int_div z (pos 0)) ≡ 0
by_none (pos n) = ap natural (ap pos (div-zero n))
by_none (negsuc n) = ap natural (ap (λ k. neg_ℤ (pos k)) (div-zero (suc n)))

pub no_turn : (first last : ℤ) → 0 ≡ trips first last (pos 0)
no_turn first last = sym (by_none ((last -ℤ first) +ℤ pos 0))
