-- What is known along the declarations of a program, and the rules' own record of it.
use Rattle.std.specs.Prelude.{◌≡◌, ℕ, nat_eq, List, Option, None, slice_get}
use Rattle.std.specs.Map.{lookup}
use Rattle.f3_kinds.specs.declared.types.Scalar.{Scalar}
use Rattle.f3_kinds.specs.Things.{map_or}
use Rattle.f3_typed_parts.specs.declared.known.Position.{Position}
use Rattle.f3_type_rules.specs.Scene.{Scene}
use Rattle.f3_type_rules.specs.Walks.{Known}
use Rattle.f3_declared.specs.declared.spots.Spot.{Spot as Standpoint}
use Rattle.f3_declared.specs.Scenery.{scene_in}
use Rattle.f3_extents.specs.Cells.{HasCells}
use Rattle.f3_entities.specs.declared.growth.Growth.{Growth}

-- the values of the named constants so far
abbrev pub HasValues : List (Option Scalar) → List (ℕ × Scalar) → Type 0
HasValues vs xs = (e : ℕ) → map_or None (λ (v : Option Scalar). v) (slice_get vs e) ≡ lookup (nat_eq e) xs

-- the same is known in this program
pub record Stands (s : Scene) (g : Growth) (k : Known) : Type 0 where
  pub scene : s ≡ scene_in g.known g.scenery
  pub next : g.next ≡ k.next
  pub values : HasValues g.known.values.items k.values
  pub cells : HasCells g.cells.items k

-- where expressions of a declaration stand
abbrev pub position_of : Standpoint → Position
position_of spot = record { scope = spot.scope; unit = spot.unit; phase = 5 }
