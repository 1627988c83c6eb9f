use Rattle.std.proofs.Common.{rules, ◌^◌}
use Rattle.f3_natures.specs.Known.{names_view}
use Rattle.f3_natures.proofs.Steps.{unit_fits, own_fits, units_more, made_more}
use Rattle.f3_natures.proofs.natures.units.Goals as goal

pub add_unit-requires-clause-scopes : goal.add_unit-requires-clause-scopes
add_unit-requires-clause-scopes c =
    unit_fits c.args.list.now c.loop-unit.unit-index c.unit-item.result c.loop-unit.scope _ (2 ^ 64) c.loop-unit-test.true c.unit-item.is c.loop-unit.invariant.scopes c.requires.scopes

pub add_unit-requires-clause-entities : goal.add_unit-requires-clause-entities
add_unit-requires-clause-entities c =
    own_fits (names_view c.args.names.now) c.args.list.now c.loop-unit.unit-index c.unit-item.result c.loop-unit.scope (2 ^ 64) c.loop-unit.things.items _ c.loop-unit-test.true c.unit-item.is c.loop-unit.invariant.things c.requires.entities

pub loop-unit-preserved : goal.loop-unit-preserved
loop-unit-preserved c = record {
  scopes = units_more c.args.list.now c.loop-unit.unit-index c.unit-item.result c.loop-unit.scope c.in-Ok.next _ c.loop-unit-test.true c.unit-item.is (search rules) c.loop-unit.invariant.scopes;
  things = made_more (names_view c.args.names.now) c.args.list.now c.loop-unit.unit-index c.unit-item.result c.loop-unit.scope c.in-Ok.next c.loop-unit.things.items c.add_unit.new.things.items _ c.loop-unit-test.true c.unit-item.is (search rules) (search rules) c.loop-unit.invariant.things;
}
