use Rattle.std.proofs.Common.{map, arith, rules, get_or}
use Rattle.f3_tree.specs.Tree.{unit_view}
use Rattle.f3_type_rules.specs.Members.{numbered, units_from}
use Rattle.f3_elaboration.specs.DeclaredViews.{procedure_view}
use Rattle.f3_program_numbers.proofs.Ordered.{fit_at, placed_at}
use Rattle.f3_elaborate.specs.Inner.Units.{procedures_in}
use Rattle.f3_elaborate.proofs.Walks.{units_more, units_end}
use Rattle.f3_elaborate.proofs.units.procedures.Goals as goal

pub add_unit-requires-clause-fit : goal.add_unit-requires-clause-fit
add_unit-requires-clause-fit c =
    fit_at c.args.walk.firsts.now c.args.numbers.now c.args.list.now c.loop-number.number c.index-list-number.result (search rules) c.index-list-number.is c.requires.numbers c.requires.fit

pub loop-number-preserved : goal.loop-number-preserved
loop-number-preserved c = record {
  settled = c.in_ok-add_unit.ensures.settled;
  knows = λ w h. c.in_ok-add_unit.ensures.knows w (c.loop-number.invariant.knows w h);
  items = λ w scopes h are places.
      units_more (procedures_in w) (units_from scopes 0 (map unit_view c.args.list.now)) c.loop-number.number
      (numbered scopes (get_or c.args.numbers.now c.loop-number.number 0) (unit_view c.index-list-number.result))
      (map procedure_view c.loop-number.found.items) (map procedure_view c.add_unit.new.found.items)
      (placed_at c.args.walk.firsts.now c.args.numbers.now c.args.list.now c.loop-number.number c.index-list-number.result (search rules) c.index-list-number.is c.requires.numbers scopes places)
      (c.loop-number.invariant.items w scopes h are places)
      (c.in_ok-add_unit.ensures.found w scopes (c.loop-number.invariant.knows w h) are);
}

pub returns-clause-found : goal.returns-clause-found
returns-clause-found c = λ w scopes h are places.
    units_end (procedures_in w) scopes c.args.list.now c.loop-number.number (map procedure_view c.loop-number.found.items) (omega (arith, c.loop-number-test.false))
    (c.loop-number.invariant.items w scopes h are places)
