use Rattle.std.proofs.Common.{◌∙◌, ap, sym}
use Rattle.f3_meaning_whole.specs.Shape.{shape_in}
use Rattle.f3_rooms.specs.Places.{is_scalar_shape}
use Rattle.f3_room_places.specs.Places.{shapes}
use Rattle.f3_word_reads.proofs.Types.{scalar-tested}
use Rattle.f3_word_reads.proofs.scalars.is_scalar.Goals as goal

pub returns-in-Derived : goal.returns-in-Derived
returns-in-Derived c =
    scalar-tested c.args.types.derived.now c.args.types.tables.now c.requires c.in-Derived.number
    ∙ ap (λ of. is_scalar_shape (shape_in (shapes c.args.types) of)) (sym c.in-Derived.is)
