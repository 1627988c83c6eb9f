-- What heaps keep besides their blocks.
use Rattle.std.specs.Prelude.{◌≡◌, ℕ, zero, suc}

-- behind so many requests
abbrev pub behind : {R : Type 0} → (R → R) → ℕ → R → R
behind spent zero kept = kept
behind spent (suc n) kept = spent (behind spent n kept)

-- and behind some
abbrev pub IsKeptBehind : {R : Type 0} → (R → R) → R → R → Type 0
IsKeptBehind spent old new = (requests : ℕ) × (new ≡ behind spent requests old)
