use Rattle.std.proofs.Common.{rules}
use Rattle.f3_scenes.proofs.Held.{holders_more}
use Rattle.f3_scenes.proofs.holders.holders.Goals as goal

pub loop-number-preserved : goal.loop-number-preserved
loop-number-preserved c =
    holders_more c.args.outlines.now c.loop-number.number c.index-outlines-number.result c.loop-number.found.items c.add_scope.new.found.items _ c.loop-number-test.true c.index-outlines-number.is
    (search rules) c.loop-number.invariant
