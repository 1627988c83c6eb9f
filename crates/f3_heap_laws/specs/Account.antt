-- How many words of a heap a block takes (own rule): its length, its pin count, its content and a tag at its end, in whole fours.
use Rattle.std.specs.Prelude.{ℕ, ◌+◌, ◌*◌, ◌-◌, ◌/◌, length}
use Rattle.std.specs.List.{sum_by}
use Rattle.std.specs.FinMap.{values}
use Rattle.f3_live_blocks.specs.Blocks.{Live}

-- n / d, rounded up
abbrev pub div_ceil : ℕ → ℕ → ℕ
div_ceil n d = (n + (d - 1)) / d

-- the words that a block of w words takes
abbrev pub r : ℕ → ℕ
r w = 4 * div_ceil (w + 3) 4

-- the words that the live blocks take together
abbrev pub used_by : Live → ℕ
used_by m = sum_by (λ b. r (length b.words)) (values m)
