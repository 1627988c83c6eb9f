-- Places of scalars.
use Rattle.f3_live_blocks.specs.Blocks.{Live}
use Rattle.f3_rooms.specs.Places.{Found, IsScalar}
use Rattle.f3_room_places.specs.declared.place.Place.{Place}
use Rattle.f3_room_places.specs.Places.{IsPlace}

-- this scalar stands there
pub record IsScalarPlace (m : Live) (p : Place) (f : Found) : Type 0 where
  pub place : IsPlace m p f
  pub scalar : IsScalar f
