use Rattle.f3_names.proofs.Stepping.{numbers_more}
use Rattle.f3_names.proofs.numbering.unit_numbers.Goals as goal

pub loop-number-preserved : goal.loop-number-preserved
loop-number-preserved c =
    numbers_more c.args.outlines.now c.loop-number.number c.index-outlines-number.result c.loop-number.numbers.items c.add_unit.new.numbers.items _
    c.loop-number-test.true c.index-outlines-number.is c.in_ok-add_unit.ensures c.loop-number.invariant
