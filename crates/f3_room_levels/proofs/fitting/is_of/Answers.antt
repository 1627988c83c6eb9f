use Rattle.std.proofs.Common.{ap, ◌∙◌}
use Rattle.f3_meaning_whole.specs.Shape.{shape_in}
use Rattle.f3_room_places.specs.Places.{shapes}
use Rattle.f3_room_places.proofs.Trees.{past_types}
use Rattle.f3_room_levels.proofs.Fits.{yes, no, record_of, whole_of, whole_not}
use Rattle.f3_room_levels.proofs.fitting.is_of.Goals as goal

pub returns-in-Number-matches : goal.returns-in-Number-matches
returns-in-Number-matches c =
    let s = shape_in (shapes c.args.types) c.args.of in
    yes (whole_of s c.args.constant c.in-Number-matches.field-0
    (ap (shape_in (shapes c.args.types)) c.in-Derived.is ∙ past_types c.args.types.derived.now c.in-Derived.number c.if-number-types.true) c.in-Number-matches.is)

pub returns-in_default-matches-2 : goal.returns-in_default-matches-2
returns-in_default-matches-2 c =
    let s = shape_in (shapes c.args.types) c.args.of in
    no (whole_not s c.args.constant c.in_default-matches-2.field-0
    (ap (shape_in (shapes c.args.types)) c.in-Derived.is ∙ past_types c.args.types.derived.now c.in-Derived.number c.if-number-types.true) c.in_default-matches-2.is)

pub returns-else-number-types : goal.returns-else-number-types
returns-else-number-types c = record_of c.args.types.derived.now c.args.of c.in-Derived.number c.args.constant c.in-Derived.is c.if-number-types.false
