-- What is written out in the Core of a program, by computation.
use Rattle.std.specs.Prelude.{refl}
use Rattle.f3_core_rows.specs.Shape.{CoreStands, ObjectsStand}

pub core_stands : CoreStands
core_stands h = (refl, refl)

pub objects_stand : ObjectsStand
objects_stand h = (refl, refl)
