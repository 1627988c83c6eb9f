-- What heaps keep besides their blocks, behind some requests.
use Rattle.std.proofs.Common.{◌≡◌, ◌∙◌, inl, inr, ℕ, zero, suc, ◌+◌, Bool, ap, arith}
use Rattle.f3_live_blocks.specs.Blocks.{Live}
use Rattle.f3_heap_laws.specs.Answers.{Answer, Sizes}
use Rattle.f3_word_cells.specs.Does.{IsKept}
use Rattle.f3_word_start.specs.Kept.{IsKeptBehind, behind}
use Rattle.f3_word_machine.specs.Runs.{IsFull, IsSpent}

behind_both : {R : Type 0} (spent : R → R) (n k : ℕ) (kept : R) → behind spent n (behind spent k kept) ≡ behind spent (n + k) kept
behind_both spent zero k kept = let e : k ≡ 0 + k = omega arith in ap (λ j. behind spent j kept) e
behind_both spent (suc n) k kept =
    let e : suc (n + k) ≡ suc n + k = omega arith in
    ap spent (behind_both spent n k kept) ∙ ap (λ j. behind spent j kept) e

pub kept_on : {R : Type 0} (spent : R → R) (a b c : R) → IsKeptBehind spent a b → IsKeptBehind spent b c → IsKeptBehind spent a c
kept_on spent a b c (k, e) (n, h) = (n + k, h ∙ ap (behind spent n) e ∙ behind_both spent n k a)

-- at most one more
pub kept_more : {R : Type 0} (spent : R → R) (a b c : R) → IsKeptBehind spent a b → IsKept spent b c → IsKeptBehind spent a c
kept_more spent a b c (k, e) (inl same) = (k, same ∙ e)
kept_more spent a b c (k, e) (inr more) = (suc k, more ∙ ap spent e)

pub full_on : {H R : Type 0} (blocks : H → Live) (kept : H → R) (spent : R → R) (has_room : H → ℕ → Bool) (a b : R) → IsKeptBehind spent a b
    → (l : Live) (n : ℕ) → IsFull blocks kept spent has_room b l n → IsFull blocks kept spent has_room a l n
full_on blocks kept spent has_room a b on l n (h, is, none) = (h, record { holds = is.holds; keeps = kept_on spent a b (kept h) on is.keeps }, none)

pub spent_on : {H R : Type 0} (blocks : H → Live) (kept : H → R) (spent : R → R) (allows : R → Sizes → ℕ → Answer → Type 0) (a b : R) → IsKeptBehind spent a b
    → (l : Live) (n : ℕ) → IsSpent blocks kept spent allows b l n → IsSpent blocks kept spent allows a l n
spent_on blocks kept spent allows a b on l n (h, is, may) = (h, record { holds = is.holds; keeps = kept_on spent a b (kept h) on is.keeps }, may)
