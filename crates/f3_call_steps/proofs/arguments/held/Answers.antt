use Rattle.f3_call_steps.proofs.Holding.{held_more}
use Rattle.f3_call_steps.proofs.arguments.held.Goals as goal

pub loop-argument-preserved : goal.loop-argument-preserved
loop-argument-preserved c = held_more c.args.arguments.now c.loop-argument.argument-index c.argument-item.result _ _ c.loop-argument-test.true
    c.argument-item.is
    c.loop-argument.invariant (c.in_ok-hold.ensures {u = tt})
