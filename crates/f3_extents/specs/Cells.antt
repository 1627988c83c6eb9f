-- The cells of types, by entity.
use Rattle.std.specs.Prelude.{◌≡◌, ℕ, nat_eq, List, Option, None, slice_get}
use Rattle.std.specs.Map.{lookup}
use Rattle.f3_kinds.specs.Things.{map_or}
use Rattle.f3_type_rules.specs.Walks.{Known}
use Rattle.f3_extents.specs.Counts.{counted}

-- the cells of the types so far
abbrev pub HasCells : List (Option ℕ) → Known → Type 0
HasCells cells k = (e : ℕ) → map_or None (λ (n : Option ℕ). n) (slice_get cells e) ≡ counted (lookup (nat_eq e) k.cells)
