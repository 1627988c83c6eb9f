-- The list of words that stands for a region: what writing a run does to it, and when two runs do not meet.
use Rattle.std.proofs.Math.Nat.{min-eq_left, min-eq_right}
use Rattle.std.proofs.lemmas.Bool.{cases_lt}
use Rattle.std.proofs.Common.{◌≡◌, ℕ, ◌+◌, ◌≤◌, ◌⊎◌, ℤ, List, ◌++◌, length, take, drop, length-take, length-take-le, length-drop}
use Rattle.std.proofs.Common.{length-append, arith, ◌-◌, min, ap, ap₂, sym, subst, ◌∙◌, inl, inr}

-- ws with the run written from the place `at` on: it stands there in place of as many words, and where it ends above ws it lengthens it
abbrev pub written : List ℤ → ℕ → List ℤ → List ℤ
written ws at run = take at ws ++ (run ++ drop (at + length run) ws)

-- the same, and what would lie above ws is cut off, so that the length stays
abbrev pub overwritten : List ℤ → ℕ → List ℤ → List ℤ
overwritten ws at run = take (length ws) (written ws at run)

pub length-overwritten : (ws : List ℤ) (at : ℕ) (run : List ℤ) → length (overwritten ws at run) ≡ length ws
length-overwritten ws at run =
    let rest = drop (at + length run) ws in
    let long : length (written ws at run) ≡ min at (length ws) + (length run + (length ws - (at + length run))) =
    length-append (take at ws) (run ++ rest)
    ∙ ap₂ ◌+◌ (length-take at ws)
    (length-append run rest ∙ ap (λ k. length run + k) (length-drop (at + length run) ws)) in
    let enough : length ws ≤ length (written ws at run) = subst (λ k. length ws ≤ k) (sym long) (elim (cases_lt at (length ws)) [
      | inl lt ↦ omega (arith, min-eq_left {n = at} {m = length ws} (omega arith))
      | inr le ↦ omega (arith, min-eq_right le)
    ]) in
    length-take-le (length ws) (written ws at run) enough

-- no place lies in both runs: the n places from a on, and the m places from b on
abbrev pub Apart : ℕ → ℕ → ℕ → ℕ → Type 0
Apart a n b m = (n ≡ 0) ⊎ (m ≡ 0) ⊎ (a + n ≤ b) ⊎ (b + m ≤ a)
