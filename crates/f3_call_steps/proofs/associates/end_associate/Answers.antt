use Rattle.std.proofs.Common.{[], refl}
use Rattle.f3_call_steps.proofs.Associations.{no_flow, no_level, ends}
use Rattle.f3_call_steps.proofs.associates.end_associate.Goals as goal

pub returns-in_default : goal.returns-in_default
returns-in_default c = λ p limit g code v here. ([], c.in_default.ensures {u = tt} p _, refl)

pub returns-in_default-pop_going : goal.returns-in_default-pop_going
returns-in_default-pop_going c = no_flow c.args.state.now c.pop_objects.new.stack _ (c.in-Some.ensures {u = tt}) c.args.state.now
    (c.in_default-pop_going.ensures {u = tt})

pub returns-in_default-pop_level : goal.returns-in_default-pop_level
returns-in_default-pop_level c = no_level c.args.state.now c.pop_objects.new.stack _ (c.in-Some.ensures {u = tt}) c.pop_going.new.stack c.in-Some-pop_going.flow
    (c.in-Some-pop_going.ensures {u = tt}) c.args.state.now (c.in_default-pop_level.ensures {u = tt})

pub returns : goal.returns
returns c = ends c.args.state.now c.pop_objects.new.stack _ (c.in-Some.ensures {u = tt}) c.pop_going.new.stack c.in-Some-pop_going.flow
    (c.in-Some-pop_going.ensures {u = tt}) c.pop_level.new.stack c.in-Some-pop_level.level _ c.leave_with.result c.leave_with.new.state
    (c.in-Some-pop_level.ensures {u = tt}) c.leave_with.ensures
