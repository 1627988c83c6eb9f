use Rattle.std.proofs.Common.{◌+◌, drop, sym, ap, ◌∙◌, inr, pos, replicate, arith}
use Rattle.std.proofs.lemmas.List.{drop_all}
use Rattle.f3_program.specs.declared.declarations.Derived.{Derived}
use Rattle.f3_meaning_whole.specs.Shape.{shape_in, shapes_of}
use Rattle.f3_room_places.proofs.Trees.{past_types}
use Rattle.f3_room_levels.specs.Initial.{declared_each}
use Rattle.f3_room_levels.proofs.Types.{type_total, type_initial, drop_part, many_parts}
use Rattle.f3_room_levels.proofs.Zeros.{zero_variable, zero_next, zero_all, zero_whole, none_there}
use Rattle.f3_room_levels.proofs.blank.+blank.Goals as goal

pub are_zero-loop-component-init : goal.are_zero-loop-component-init
are_zero-loop-component-init t c = λ z. z

pub are_zero-loop-component-preserved : goal.are_zero-loop-component-preserved
are_zero-loop-component-preserved t c =
    let cs = c.args.components.now in
    let ds = declared_each cs in
    let i = c.loop-component.component-index in
    let x = c.component-item.result in
    zero_next (shapes_of c.args.derived.now) x.declared (drop i ds) (drop (i + 1) ds) ds (drop_part cs i x c.loop-component-test.true c.component-item.is)
    (c.is_zero.ensures c.if-not-is_zero.false) c.loop-component.invariant

pub are_zero-returns : goal.are_zero-returns
are_zero-returns t c = λ e.
    let cs = c.args.components.now in
    let ds = declared_each cs in
    let i = c.loop-component.component-index in
    let many = many_parts cs in
    zero_all (shapes_of c.args.derived.now) (drop i ds) ds (drop_all i ds (omega arith)) c.loop-component.invariant

pub is_blank-returns-then-number-derived : goal.is_blank-returns-then-number-derived
is_blank-returns-then-number-derived t c = λ e.
    zero_whole (shape_in (shapes_of c.args.derived.now) c.args.of)
    (ap (shape_in (shapes_of c.args.derived.now)) c.in-Derived.is ∙ past_types c.args.derived.now c.in-Derived.number c.if-number-derived.true)

pub is_blank-returns-else-number-derived : goal.is_blank-returns-else-number-derived
is_blank-returns-else-number-derived t c = λ e.
    let xs = c.args.derived.now in
    let n = c.in-Derived.number in
    let x = c.index-derived-number.result in
    let cs = c.deref.result.now in
    let its = c.deref.ensures.value ∙ ap (λ (y : Derived). y.components.items) (sym c.index-derived-number.is) in
    type_initial xs c.args.of n x x cs c.in-Derived.is (omega arith) c.index-derived-number.is its
    ∙ c.are_zero.ensures e
    ∙ ap (λ k. replicate k (pos 0)) (sym (type_total xs c.args.of n x x cs c.in-Derived.is (omega arith) c.index-derived-number.is its))

pub is_zero-returns-then-is_empty : goal.is_zero-returns-then-is_empty
is_zero-returns-then-is_empty t c = λ e.
    zero_variable (shapes_of c.args.derived.now) c.args.declared.now
    (inr (none_there c.is_empty.result c.args.declared.now.initial c.is_empty.ensures c.if-is_empty.true, c.is_blank.ensures e))
