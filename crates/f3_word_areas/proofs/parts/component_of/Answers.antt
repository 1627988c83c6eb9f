use Rattle.std.proofs.Common.{◌≡◌, ◌<◌, ◌∙◌, ap, sym, length, arith, refl, get_or}
use Rattle.f3_program.specs.declared.declarations.Base.{Base}
use Rattle.f3_meaning_whole.specs.Act.{component_in, component_of}
use Rattle.f3_meaning_whole.specs.Shape.{shape_in}
use Rattle.f3_room_places.specs.Components.{offset_at}
use Rattle.f3_room_places.specs.Places.{shapes}
use Rattle.std.proofs.lemmas.List.{get_or_read}
use Rattle.std.proofs.lemmas.Option.{slice_get-get_or, slice_get_read}
use Rattle.f3_room_places.proofs.Tables.{a_table_each, is_table}
use Rattle.f3_room_places.proofs.Components.{offsets_each, offset_is}
use Rattle.f3_word_areas.proofs.parts.component_of.Goals as goal

pub bounds-types-number-2 : goal.bounds-types-number-2
bounds-types-number-2 c = let many = a_table_each c.args.types.derived.now c.args.types.tables.now c.requires in omega arith

pub index-requires-2 : goal.index-requires-2
index-requires-2 c =
    let ts = c.args.types.derived.now in
    let many = a_table_each ts c.args.types.tables.now c.requires in
    let x = get_or ts c.in-Derived.number c.index-types-number.result in
    let y = get_or c.args.types.tables.now c.in-Derived.number c.index-types-number-2.result in
    let each : length y.offsets.items ≡ length x.components.items
    = offsets_each ts c.in-Derived.number c.args.component x y (slice_get-get_or ts c.in-Derived.number c.index-types-number.result (omega arith))
    (is_table ts c.args.types.tables.now c.requires c.in-Derived.number c.index-types-number-2.result (omega arith)) in
    let shorter : c.args.component < length x.components.items = omega (arith, c.len.ensures) in
    let shorter' : c.args.component < length y.offsets.items = omega arith in
    omega arith

pub returns : goal.returns
returns c =
    let ts = c.args.types.derived.now in
    let k = c.args.component in
    let many = a_table_each ts c.args.types.tables.now c.requires in
    let x = get_or ts c.in-Derived.number c.index-types-number.result in
    let y = get_or c.args.types.tables.now c.in-Derived.number c.index-types-number-2.result in
    let at = slice_get-get_or ts c.in-Derived.number c.index-types-number.result (omega arith) in
    let table = is_table ts c.args.types.tables.now c.requires c.in-Derived.number c.index-types-number-2.result (omega arith) in
    let each : length y.offsets.items ≡ length x.components.items = offsets_each ts c.in-Derived.number k x y at table in
    let shorter : k < length x.components.items = omega (arith, c.len.ensures) in
    let as_short : k < length y.offsets.items = omega arith in
    let there = slice_get_read x.components.items (length x.components.items) k c.index.result.now refl shorter c.index.ensures in (
      c.index.result.now,
      ap (λ (o : Base). component_of ts o k) c.in-Derived.is ∙ ap (λ o. component_in o k) at ∙ there,
      refl,
      get_or_read y.offsets.items k c.index-2.result.now as_short c.index-2.ensures 0 ∙ offset_is ts c.in-Derived.number k x y at table ∙ ap (λ (o : Base). offset_at (shape_in (shapes c.args.types) o) k) (sym c.in-Derived.is),
    )
