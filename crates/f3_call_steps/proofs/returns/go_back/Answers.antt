use Rattle.std.proofs.Common.{refl}
use Rattle.f3_call_steps.proofs.Returning.{came_back}
use Rattle.f3_call_steps.proofs.returns.go_back.Goals as goal

pub returns : goal.returns
returns c = came_back c.args.state.now
    (record { pc = c.in-Some.frame.pc; stack = c.push.new.self; here = c.in-Some.frame.here; frames = c.pop.new.self; store = c.leave.new.self })
    c.in-Some.frame c.args.value (c.in-Some.ensures {u = tt}).items refl refl (c.in_ok-push.ensures {u = tt}).items c.leave.ensures
