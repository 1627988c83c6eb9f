use Rattle.f3_call_steps.proofs.Calling.{entered_so}
use Rattle.f3_call_steps.proofs.calls.begin_call.Goals as goal

pub returns-in_ok-enter_procedure-in-Some : goal.returns-in_ok-enter_procedure-in-Some
returns-in_ok-enter_procedure-in-Some c = entered_so c.args.scene.now c.args.number c.in-Some.procedure.now c.in-Some.line c.args.arguments.items c.args.place
    c.args.state.now c.enter_procedure.new.state (c.in-Some.ensures {u = tt}) (c.in_ok-enter_procedure-in-Some.ensures {u = tt})
