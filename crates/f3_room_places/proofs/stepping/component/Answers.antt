use Rattle.std.proofs.Common.{arith}
use Rattle.f3_room_places.proofs.Reached.{absent_component, offset_fits, present_component}
use Rattle.f3_room_places.proofs.Components.{type_there}
use Rattle.f3_room_places.proofs.stepping.component.Goals as goal

pub returns-in_default-component_of : goal.returns-in_default-component_of
returns-in_default-component_of g c =
    absent_component (g.B.Blocks.blocks c.args.heap.now) c.args.place.now _ c.in-Laid.rank c.in-Laid.is (omega arith) c.in-Derived.number c.in-Derived.is c.args.component
    c.in_default-component_of.ensures

pub overflow_add-result : goal.overflow_add-result
overflow_add-result g c =
    let fits = offset_fits (g.B.Blocks.blocks c.args.heap.now) c.args.place.now _ c.in-Laid.rank c.in-Laid.is (omega arith) c.in-Derived.number c.in-Derived.is c.args.component
    c.in-Some.declared.now c.in-Some.offset (c.in-Some.ensures).0 (c.in-Some.ensures).1 c.requires.0 c.requires.1 in
    omega (arith, fits, c.length.ensures)

pub before-requires-clause-one : goal.before-requires-clause-one
before-requires-clause-one g c = type_there c.args.place.now.types.derived.now c.in-Derived.number c.args.component c.in-Some.declared.now (c.in-Some.ensures).0

pub returns : goal.returns
returns g c =
    present_component (g.B.Blocks.blocks c.args.heap.now) c.args.place.now _ c.in-Laid.rank c.in-Laid.is (omega arith) c.in-Derived.number c.in-Derived.is c.args.component
    c.in-Some.declared.now c.in-Some.offset (c.in-Some.ensures).0 (c.in-Some.ensures).1 c.before-2.result c.form_of.result c.before-2.ensures.tables c.before-2.ensures.shapes
    c.form_of.ensures
