-- Counts of elements and cells, kept exact below 2 ^ 64 - 1.
use Rattle.std.specs.Prelude.{ℕ, ◌-◌, ◌^◌, Option, min}
use Rattle.std.specs.Option.{option_map}

-- what stands for a count: itself, or 2 ^ 64 - 1 for one that is no less
abbrev pub capped : ℕ → ℕ
capped n = min n (2 ^ 64 - 1)

abbrev pub counted : Option ℕ → Option ℕ
counted n = option_map capped n
