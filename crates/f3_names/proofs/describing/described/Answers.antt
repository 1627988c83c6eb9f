use Rattle.f3_names.proofs.Stepping.{entities_more}
use Rattle.f3_names.proofs.describing.described.Goals as goal

pub loop-number-preserved : goal.loop-number-preserved
loop-number-preserved c =
    entities_more c.args.outlines.now c.loop-number.number c.index-outlines-number.result c.loop-number.entities.items c.add_scope.new.entities.items _
    c.loop-number-test.true c.index-outlines-number.is c.in_ok-add_scope.ensures c.loop-number.invariant
