use Rattle.std.proofs.Common.{rules}
use Rattle.f3_program_numbers.specs.Walks.{statics_by}
use Rattle.f3_program_numbers.proofs.Ordered.{fit_at, unit_more}
use Rattle.f3_program_numbers.proofs.units.statics.Goals as goal

pub add_statics-requires : goal.add_statics-requires
add_statics-requires c =
    fit_at c.args.firsts.now c.args.numbers.now c.args.list.now c.loop-number.number c.index-list-number.result (search rules) c.index-list-number.is c.requires.numbers c.requires.fit

pub loop-number-preserved : goal.loop-number-preserved
loop-number-preserved c = λ scopes are places.
    unit_more c.args.firsts.now c.args.numbers.now c.args.list.now c.loop-number.number c.index-list-number.result (search rules) c.index-list-number.is c.requires.numbers scopes statics_by
    c.loop-number.found.items c.add_statics.new.found.items places (c.loop-number.invariant scopes are places) (c.in_ok-add_statics.ensures scopes are)
