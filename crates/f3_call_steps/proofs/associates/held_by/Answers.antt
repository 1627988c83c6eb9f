use Rattle.f3_call_steps.proofs.Holding.{held_by_more}
use Rattle.f3_call_steps.proofs.associates.held_by.Goals as goal

pub loop-selector-preserved : goal.loop-selector-preserved
loop-selector-preserved c = held_by_more c.args.selectors.now c.loop-selector.selector-index c.selector-item.result _ _ c.loop-selector-test.true
    c.selector-item.is
    c.loop-selector.invariant (c.in_ok-hold.ensures {u = tt})
