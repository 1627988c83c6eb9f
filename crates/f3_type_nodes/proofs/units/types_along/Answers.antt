use Rattle.std.proofs.Common.{List, map, ap, ◌∙◌, arith}
use Rattle.f3_tree.specs.Tree.{unit_view}
use Rattle.f3_type_rules.specs.Members.{Numbered, units_from}
use Rattle.f3_elaboration.specs.DeclaredViews.{derived_view}
use Rattle.f3_type_nodes.proofs.Walks.{types_of, units_more, units_done}
use Rattle.f3_type_nodes.proofs.units.types_along.Goals as goal

pub loop-unit-preserved : goal.loop-unit-preserved
loop-unit-preserved c = λ w inner scopes h.
    let units : List Numbered = units_from scopes 0 (map unit_view c.args.list.now) in
    units_more w units c.deref-unit-items.result.now c.loop-unit.unit-index _ (map derived_view c.loop-unit.found.items) (map derived_view c.add_unit_at.new.found.items) _
    c.loop-unit-test.true (c.in_ok-add_unit_at.ensures w inner scopes h) (c.loop-unit.invariant w inner scopes h)

pub returns : goal.returns
returns c = λ w inner scopes h.
    let units : List Numbered = units_from scopes 0 (map unit_view c.args.list.now) in
    units_done w units c.deref-unit-items.result.now c.loop-unit.unit-index (map derived_view c.loop-unit.found.items) _
    (omega (arith, c.loop-unit-test.false)) (c.loop-unit.invariant w inner scopes h)
    ∙ ap (types_of w units) c.deref-unit-items.ensures.value
