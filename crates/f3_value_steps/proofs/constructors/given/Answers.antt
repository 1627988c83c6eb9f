use Rattle.f3_value_steps.proofs.Many.{given_more}
use Rattle.f3_value_steps.proofs.constructors.given.Goals as goal

pub loop-argument-preserved : goal.loop-argument-preserved
loop-argument-preserved c = given_more c.loop-argument.yielded c.in-Some.argument c.loop-argument.values.items c.push_given.new.values.items
    c.loop-argument.invariant
    (c.in_ok-push_given.ensures {u = tt})
