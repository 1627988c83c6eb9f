use Rattle.f3_cells.specs.States.{state_of}
use Rattle.f3_requests.proofs.Requested.{no_arguments, call_fails}
use Rattle.f3_requests.proofs.refusing.call.Goals as goal

pub returns-in-Ok : goal.returns-in-Ok
returns-in-Ok c = λ number x v place n h. call_fails x number c.args.count place v c.args.state.now n c.in-Ok.arguments c.pop_arguments.new.stack.items h c.in-Ok.ensures

pub returns-in-Err : goal.returns-in-Err
returns-in-Err c = λ number x v place n h. no_arguments x number c.args.count place v c.args.state.now c.in-Err.stop (state_of x.program.now c.args.state.now)
    c.pop_arguments.new.stack.items c.in-Err.ensures
