use Rattle.std.proofs.Common.{map, arith}
use Rattle.f3_tree.specs.Tree.{unit_view}
use Rattle.f3_type_rules.specs.Members.{units_from}
use Rattle.f3_program_numbers.specs.Walks.{types_by}
use Rattle.f3_program_numbers.proofs.Ordered.{all_ordered}
use Rattle.f3_program_numbers.proofs.units.types.Goals as goal

pub returns : goal.returns
returns c = λ scopes are places.
    all_ordered types_by (units_from scopes 0 (map unit_view c.args.list.now)) c.deref-unit-items.result.now c.args.order.now.units.items c.loop-unit.unit-index c.loop-unit.found.items
    (omega (arith, c.loop-unit-test.false)) c.deref-unit-items.ensures.value (c.loop-unit.invariant scopes are places)
