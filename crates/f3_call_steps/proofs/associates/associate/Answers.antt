use Rattle.f3_call_steps.proofs.Associations.{no_selectors, begins}
use Rattle.f3_call_steps.proofs.associates.associate.Goals as goal

pub returns-in-Err : goal.returns-in-Err
returns-in-Err c = λ scene v place. no_selectors scene c.args.count v place c.args.state.now c.in-Err.stop
    (record c.args.state.now { stack = c.pop_selectors.new.stack }) c.pop_selectors.new.stack.items (c.in-Err.ensures {u = tt})

pub returns : goal.returns
returns c = λ scene v place. begins scene c.args.count v place c.args.state.now c.in-Ok.selectors.items c.pop_selectors.new.stack c.begin_associate.new.state
    (c.in-Ok.ensures {u = tt}) (c.in_ok-begin_associate.ensures {u = tt})
