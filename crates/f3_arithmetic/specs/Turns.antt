-- How often a loop turns.
use Rattle.std.specs.Prelude.{ℕ, suc, Option, None, Some}

-- the first turn and those behind it, or no turn
abbrev pub turns_of : Option ℕ → ℕ
turns_of None = 0
turns_of (Some n) = suc n
