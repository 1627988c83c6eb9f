-- Where variables begin that stand one after another.
use Rattle.std.specs.Prelude.{◌≡◌, ℕ, ◌+◌, List, [], ◌∷◌}
use Rattle.f3_program.specs.declared.declarations.Declared.{Declared}
use Rattle.f3_live_blocks.specs.Blocks.{Live}
use Rattle.f3_meaning_whole.specs.Shape.{Shape}
use Rattle.f3_rooms.specs.Forms.{room}
use Rattle.f3_rooms.specs.Rooms.{Room}
use Rattle.f3_rooms.specs.Sound.{IsRoom}

abbrev pub starts_from : List Shape → ℕ → List Declared → List ℕ
starts_from ts at [] = []
starts_from ts at (d ∷ ds) = at ∷ starts_from ts (at + room ts d) ds

-- these variables stand from the first word of this block on
pub record IsRoomOf (ts : List Shape) (m : Live) (block : ℕ) (ds : List Declared) (r : Room) : Type 0 where
  pub there : r.block ≡ block
  pub these : r.declared ≡ ds
  pub stands : IsRoom ts m r
