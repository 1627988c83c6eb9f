use Rattle.std.specs.Prelude.{refl}
use Rattle.f3_elaboration_rows.specs.Plain.{PlainsStand}

pub plains_stand : PlainsStand
plains_stand = record {
  of_protected = refl;
  of_saved = refl;
  types_of_types = refl;
  dummies_of_types = refl;
  locals_of_types = refl;
  types_of_finals = refl;
  types_of_private = refl;
}
