-- Extents that are counted.
use Rattle.std.proofs.Common.{◌≡◌, ℕ, ◌-◌, ◌^◌, min, Option, None, Some, refl}
use Rattle.f3_kinds.specs.Things.{map_or}
use Rattle.f3_extents.specs.Counts.{counted}

pub counted_or_none : (o : Option ℕ) → map_or 0 (λ (n : ℕ). n) (counted o) ≡ map_or 0 (λ (n : ℕ). min n (2 ^ 64 - 1)) o
counted_or_none None = refl
counted_or_none (Some n) = refl
