use Rattle.std.proofs.Common.{◌<◌, ◌≤◌, length, refl, arith}
use Rattle.f3_call_steps.proofs.Calling.{no_arguments, too_deep, calls}
use Rattle.f3_call_steps.proofs.calls.call.Goals as goal

pub returns-in-Err : goal.returns-in-Err
returns-in-Err c = λ v. no_arguments c.args.scene.now c.args.number c.args.count c.args.place v c.args.state.now c.in-Err.stop
    (record c.args.state.now { stack = c.pop_arguments.new.stack }) c.pop_arguments.new.stack.items (c.in-Err.ensures {u = tt})

pub returns-then-len-ge-MOST_ACTIVE : goal.returns-then-len-ge-MOST_ACTIVE
returns-then-len-ge-MOST_ACTIVE c =
    let deep : 1000 ≤ length c.args.state.now.frames.items = omega (arith, c.if-len-ge-MOST_ACTIVE.true, c.len.ensures, c.args.state.now.frames.ok.0) in
    λ v. too_deep c.args.scene.now c.args.number c.args.count c.args.place v c.args.state.now c.in-Ok.arguments.items c.pop_arguments.new.stack.items
    (c.in-Ok.ensures {u = tt}) (record c.args.state.now { stack = c.pop_arguments.new.stack }) deep

pub returns : goal.returns
returns c =
    let shallow : length c.args.state.now.frames.items < 1000 = omega (arith, c.if-len-ge-MOST_ACTIVE.false, c.len.ensures, c.args.state.now.frames.ok.0) in
    λ v. calls c.args.scene.now c.args.number c.args.count c.args.place v c.args.state.now c.in-Ok.arguments.items c.pop_arguments.new.stack.items
    (c.in-Ok.ensures {u = tt}) (record c.args.state.now { stack = c.pop_arguments.new.stack }) c.begin_call.new.state c.begin_call.result shallow refl refl
    c.begin_call.ensures
