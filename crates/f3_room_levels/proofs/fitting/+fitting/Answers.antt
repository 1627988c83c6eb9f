use Rattle.std.proofs.Common.{◌+◌, drop, sym, ap, subst, ◌∙◌, arith}
use Rattle.std.proofs.lemmas.List.{drop_all}
use Rattle.f3_program.specs.declared.declarations.Derived.{Derived}
use Rattle.f3_meaning_whole.specs.Shape.{shape_in, shapes_of}
use Rattle.f3_room_places.specs.Places.{shapes}
use Rattle.f3_room_places.proofs.Trees.{past_types}
use Rattle.f3_room_levels.specs.Initial.{declared_each, AllCanBegin}
use Rattle.f3_room_levels.proofs.Types.{drop_part, many_parts, type_can, can_type}
use Rattle.f3_room_levels.proofs.Fits.{yes, no, failed, can_next, not_can, not_type, all_can, whole_can}
use Rattle.f3_room_levels.proofs.fitting.+fitting.Goals as goal

pub components_can_begin-loop-component-init : goal.components_can_begin-loop-component-init
components_can_begin-loop-component-init t c = (λ a. a, λ a. a)

pub components_can_begin-returns-then-not-one_can_begin : goal.components_can_begin-returns-then-not-one_can_begin
components_can_begin-returns-then-not-one_can_begin t c =
    let ds = declared_each c.args.components.now in
    let i = c.loop-component.component-index in
    let x = c.component-item.result in
    no (not_can (shapes c.args.types) (drop i ds) (drop (i + 1) ds) ds x.declared (drop_part c.args.components.now i x c.loop-component-test.true c.component-item.is) c.loop-component.invariant
    (failed c.one_can_begin.result c.one_can_begin.ensures c.if-not-one_can_begin.true))

pub components_can_begin-returns-then-not-type_can_begin : goal.components_can_begin-returns-then-not-type_can_begin
components_can_begin-returns-then-not-type_can_begin t c =
    let ds = declared_each c.args.components.now in
    let i = c.loop-component.component-index in
    let x = c.component-item.result in
    no (not_type (shapes c.args.types) (drop i ds) (drop (i + 1) ds) ds x.declared (drop_part c.args.components.now i x c.loop-component-test.true c.component-item.is) c.loop-component.invariant
    (failed c.type_can_begin.result c.type_can_begin.ensures c.if-not-type_can_begin.true))

pub components_can_begin-loop-component-preserved : goal.components_can_begin-loop-component-preserved
components_can_begin-loop-component-preserved t c =
    let ds = declared_each c.args.components.now in
    let i = c.loop-component.component-index in
    let x = c.component-item.result in
    can_next (shapes c.args.types) (drop i ds) (drop (i + 1) ds) ds x.declared (drop_part c.args.components.now i x c.loop-component-test.true c.component-item.is) c.loop-component.invariant
    (c.one_can_begin.ensures.0 c.if-not-one_can_begin.false) (c.type_can_begin.ensures.0 c.if-not-type_can_begin.false)

pub components_can_begin-returns : goal.components_can_begin-returns
components_can_begin-returns t c =
    let ds = declared_each c.args.components.now in
    let i = c.loop-component.component-index in
    let many = many_parts c.args.components.now in
    yes (all_can (shapes c.args.types) (drop i ds) ds (drop_all i ds (omega arith)) c.loop-component.invariant)

pub type_can_begin-returns-then-number-types : goal.type_can_begin-returns-then-number-types
type_can_begin-returns-then-number-types t c =
    yes (whole_can (shape_in (shapes c.args.types) c.args.of)
    (ap (shape_in (shapes c.args.types)) c.in-Derived.is ∙ past_types c.args.types.derived.now c.in-Derived.number c.if-number-types.true))

pub type_can_begin-returns : goal.type_can_begin-returns
type_can_begin-returns t c =
    let xs = c.args.types.derived.now in
    let n = c.in-Derived.number in
    let x = c.index-types-number.result in
    let cs = c.deref.result.now in
    let its = c.deref.ensures.value ∙ ap (λ (y : Derived). y.components.items) (sym c.index-types-number.is) in
    let before = ap shapes_of c.before-2.ensures.derived in
    let test = c.components_can_begin.ensures in (
      λ e. can_type xs c.args.of n x x cs c.in-Derived.is (omega arith) c.index-types-number.is its (subst (λ ts. AllCanBegin ts (declared_each cs)) before (test.0 e)),
      λ can. test.1 (subst (λ ts. AllCanBegin ts (declared_each cs)) (sym before) (type_can xs c.args.of n x x cs c.in-Derived.is (omega arith) c.index-types-number.is its can)),
    )
