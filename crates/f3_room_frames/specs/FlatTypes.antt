-- Types of whose objects nothing is allocatable (ISO/IEC 1539-1:2004, 6.3.1).
use Rattle.std.specs.Prelude.{◌≡◌, Bool, List, map}
use Rattle.f3_meaning_whole.specs.Shape.{Shape}
use Rattle.f3_rooms.specs.Flat.{is_flat}

-- of each of the types in their order, whether it is one
pub record TellFlat (ts : List Shape) (bs : List Bool) : Type 0 where
  pub told : bs ≡ map is_flat ts
