use Rattle.std.proofs.Common.{◌≡◌, ℕ, zero, suc, ◌+◌, ◌≤◌, List, [], ◌∷◌, length, get_or, nat_eq, false, refl, ◌∙◌, arith}
use Rattle.std.proofs.lemmas.Bool.{eq-eqb, ne_eqb}
use Rattle.f3_code.specs.State.{Next}
use Rattle.f3_code.specs.Machine.{routine_at}
use Rattle.f3_control_steps.proofs.work.routine_line.Goals as goal

module _ (t : ℕ) (go : ℕ → Next) (none : Next) where
  earlier : (x : ℕ) (xs : List ℕ) → nat_eq t (length xs) ≡ false → routine_at (x ∷ xs) t go none ≡ routine_at xs t go none
  earlier x xs h = rw h refl

  past : (xs : List ℕ) → length xs ≤ t → routine_at xs t go none ≡ none
  past [] h = refl
  past (x ∷ xs) h = earlier x xs (ne_eqb t (length xs) (λ e. omega arith)) ∙ past xs (omega arith)

  found : (xs : List ℕ) (i d : ℕ) → i + t + 1 ≡ length xs → routine_at xs t go none ≡ go (get_or xs i d)
  found [] i d h = absurd (omega arith)
  found (x ∷ xs) zero d h = rw (eq-eqb t (length xs) (omega arith)) refl
  found (x ∷ xs) (suc i) d h = earlier x xs (ne_eqb t (length xs) (λ e. omega arith)) ∙ found xs i d (omega arith)

pub returns-else-number-count : goal.returns-else-number-count
returns-else-number-count c = λ go none. past c.args.number go none c.args.routines.now (omega arith)

pub returns-then-number-count : goal.returns-then-number-count
returns-then-number-count c = λ go none. found c.args.number go none c.args.routines.now _ _ (omega arith)
