use Rattle.std.proofs.Common.{arith}
use Rattle.f3_references.proofs.Building.{given_more}
use Rattle.f3_references.proofs.constructors.are_given.Goals as goal

pub loop-place-preserved : goal.loop-place-preserved
loop-place-preserved c =
    given_more c.args.components.now.entries c.args.taken.now.keys c.loop-place.place c.is_given.result c.loop-place.right c.both-right.result _ (omega (arith, c.loop-place-test.true, c.len-place-end.ensures))
    c.is_given.ensures c.both-right.ensures c.loop-place.invariant
