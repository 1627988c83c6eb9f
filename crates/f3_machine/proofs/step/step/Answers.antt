use Rattle.std.proofs.Common.{◌≡◌, Some, sym}
use Rattle.std.specs.Prelude.{slice_get}
use Rattle.f3_machine.proofs.Stepping.{goes, stops}
use Rattle.f3_machine.proofs.step.step.Goals as goal

pub returns-in-Err : goal.returns-in-Err
returns-in-Err g c =
    let is : Some c.in-Some.line.now ≡ slice_get c.args.scene.now.emission.now.lines.items c.args.state.now.pc =
    sym (rw c.deref.ensures.value at c.in-Some.ensures) in
    rw c.end_of.ensures
    (stops c.args.size c.args.scene.now c.args.state.now c.do_line.new.state c.in-Some.line.now c.unwrap_or-place.result _ _ is
    c.unwrap_or-place.ensures c.in-Err.stop (c.in-Err.ensures {u = tt}))

pub returns-in-Ok : goal.returns-in-Ok
returns-in-Ok g c =
    let is : Some c.in-Some.line.now ≡ slice_get c.args.scene.now.emission.now.lines.items c.args.state.now.pc =
    sym (rw c.deref.ensures.value at c.in-Some.ensures) in
    goes c.args.size c.args.scene.now c.args.state.now c.do_line.new.state c.in-Some.line.now c.unwrap_or-place.result _ _ is
    c.unwrap_or-place.ensures (c.in-Ok.ensures {u = tt})
