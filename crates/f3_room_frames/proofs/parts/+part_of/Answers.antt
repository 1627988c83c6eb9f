use Rattle.std.proofs.Common.{arith, ◌≡◌, ◌<◌, length, take, get_or, vec_len, sym, ap, subst, ◌∙◌}
use Rattle.std.proofs.lemmas.List.{length-take-le}
use Rattle.f3_program.specs.declared.declarations.Derived.{Derived}
use Rattle.f3_room_frames.proofs.PartLaws.{same_type, tables_many, tables_before, offset_there, part_stands}
use Rattle.f3_room_frames.proofs.parts.+part_of.Goals as goal

pub bounds-tables-number : goal.bounds-tables-number
bounds-tables-number t c = let many = tables_many c.args.types.now c.args.tables.now c.requires in omega arith

pub index-before-requires : goal.index-before-requires
index-before-requires t c =
    let ok = (c.index-types-number.result).components.ok in
    let same : vec_len (get_or c.args.types.now c.in-Derived.number c.index-types-number.result).components ≡ vec_len (c.index-types-number.result).components
    = ap (λ (y : Derived). vec_len y.components) (sym c.index-types-number.is) in
    let short : c.in-Some.first.now < length (c.index-types-number.result).components.items = omega arith in
    let there = offset_there c.args.types.now c.args.tables.now c.in-Derived.number c.index-types-number.result c.index-tables-number.result c.in-Some.first.now c.requires
    (omega arith) c.index-types-number.is short in
    let fits = (get_or c.args.tables.now c.in-Derived.number c.index-tables-number.result).offsets.ok in
    omega arith

pub slice_bounds-part_of-end : goal.slice_bounds-part_of-end
slice_bounds-part_of-end t c =
    let many = tables_many c.args.types.now c.args.tables.now c.requires in
    let long : length (take c.in-Derived.number c.args.tables.now) ≡ c.in-Derived.number = length-take-le c.in-Derived.number c.args.tables.now (omega arith) in
    omega arith

pub part_of-requires : goal.part_of-requires
part_of-requires t c =
    let many = tables_many c.args.types.now c.args.tables.now c.requires in
    let long : length (take c.in-Derived.number c.args.tables.now) ≡ c.in-Derived.number = length-take-le c.in-Derived.number c.args.tables.now (omega arith) in
    (omega (arith, c.decreases), tables_before c.args.types.now c.args.tables.now c.in-Derived.number c.requires (omega arith))

pub returns : goal.returns
returns t c =
    let ok = (c.index-types-number.result).components.ok in
    let same : vec_len (get_or c.args.types.now c.in-Derived.number c.index-types-number.result).components ≡ vec_len (c.index-types-number.result).components
    = ap (λ (y : Derived). vec_len y.components) (sym c.index-types-number.is) in
    let short : c.in-Some.first.now < length (c.index-types-number.result).components.items = omega arith in
    let twice = same_type c.args.types.now c.in-Derived.number c.index-types-number.result c.index-types-number-2.result (omega arith) c.index-types-number.is c.index-types-number-2.is in
    part_stands c.args.types.now c.args.tables.now c.args.of c.in-Derived.number c.index-types-number-2.result c.index-tables-number.result c.args.way.now c.in-Some.first.now c.in-Some.rest.now
    c.index.result.now c.index-before.result.now c.in_ok-place.place c.in_ok-checked_add.field-0 c.in_ok-place.scalar c.requires (omega arith) c.in-Derived.is c.index-types-number-2.is
    c.in-Some.ensures.cases.0 (subst (λ (y : Derived). c.in-Some.first.now < length y.components.items) twice short)
    (c.index.ensures ∙ ap (λ (y : Derived). get_or y.components.items c.in-Some.first.now c.index.result.now) (sym c.index-types-number-2.is)) c.if-declared.false (omega (arith, c.if-declared-gt0.false)) c.index-before.ensures c.in_ok-place.ensures c.in_ok-checked_add.ensures.1
