use Rattle.std.proofs.Common.{◌∙◌, ap, sym}
use Rattle.f3_meaning_whole.specs.Shape.{shape_in}
use Rattle.f3_rooms.specs.Forms.{words_for}
use Rattle.f3_room_places.specs.Places.{shapes}
use Rattle.f3_room_places.proofs.Tables.{tells_words, no_table}
use Rattle.f3_room_places.proofs.types.words.Goals as goal

pub returns-then-number-types : goal.returns-then-number-types
returns-then-number-types c =
    tells_words c.args.types.derived.now c.args.types.tables.now c.requires c.in-Derived.number c.index-types-number.result c.if-number-types.true
    ∙ ap (λ of. words_for (shape_in (shapes c.args.types) of)) (sym c.in-Derived.is)

pub returns-else-number-types : goal.returns-else-number-types
returns-else-number-types c =
    no_table c.args.types.derived.now c.args.types.tables.now c.requires c.in-Derived.number c.if-number-types.false
    ∙ ap (λ of. words_for (shape_in (shapes c.args.types) of)) (sym c.in-Derived.is)
