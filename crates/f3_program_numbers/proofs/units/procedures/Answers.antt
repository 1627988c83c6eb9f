use Rattle.std.proofs.Common.{rules}
use Rattle.f3_program_numbers.specs.Walks.{procedures_by}
use Rattle.f3_program_numbers.proofs.Ordered.{fit_at, unit_more}
use Rattle.f3_program_numbers.proofs.units.procedures.Goals as goal

pub add_unit_procedures-requires : goal.add_unit_procedures-requires
add_unit_procedures-requires c =
    fit_at c.args.firsts.now c.args.numbers.now c.args.list.now c.loop-number.number c.index-list-number.result (search rules) c.index-list-number.is c.requires.numbers c.requires.fit

pub loop-number-preserved : goal.loop-number-preserved
loop-number-preserved c = λ scopes are places.
    unit_more c.args.firsts.now c.args.numbers.now c.args.list.now c.loop-number.number c.index-list-number.result (search rules) c.index-list-number.is c.requires.numbers scopes procedures_by
    c.loop-number.found.items c.add_unit_procedures.new.found.items places (c.loop-number.invariant scopes are places) (c.in_ok-add_unit_procedures.ensures scopes are)
