-- Entries by name, of which the first of each name counts.
use Rattle.std.specs.Prelude.{ℕ, nat_eq, List, [], ◌∷◌, ◌++◌, is_some, if◌then◌else◌}
use Rattle.std.specs.Map.{lookup}

abbrev pub with_first : {X : Type 0} → List (ℕ × X) → ℕ → X → List (ℕ × X)
with_first es k x = if is_some (lookup (nat_eq k) es) then es else es ++ (k, x) ∷ []

abbrev pub firsts_after : {X : Type 0} → List (ℕ × X) → List (ℕ × X) → List (ℕ × X)
firsts_after es [] = es
firsts_after es (x ∷ xs) = firsts_after (with_first es x.0 x.1) xs

-- the entries without those whose name one before them has
abbrev pub firsts : {X : Type 0} → List (ℕ × X) → List (ℕ × X)
firsts xs = firsts_after [] xs
