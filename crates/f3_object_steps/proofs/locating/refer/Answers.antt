use Rattle.std.proofs.Common.{refl}
use Rattle.f3_meaning_whole.specs.Act.{at, named}
use Rattle.f3_code.specs.declared.instruction.Instruction.TheVariants as i
use Rattle.f3_code.specs.Machine.{act}
use Rattle.f3_cells.specs.Cells.{here_of}
use Rattle.f3_cells.specs.States.{state_of, setting, code_of}
use Rattle.f3_object_steps.proofs.Forms.{named_ok, named_err}
use Rattle.f3_object_steps.proofs.locating.refer.Goals as goal

pub returns-in-Ok : goal.returns-in-Ok
returns-in-Ok c = λ v place. let p = c.args.scene.now.program.now in
    named_ok (act 1000 (setting p) (code_of c.args.scene.now) (i.Refer c.args.name) v (at place (here_of p c.args.state.now.here)) (state_of p c.args.state.now)) (code_of c.args.scene.now) p place c.args.state.now c.go_on_with.new.self
    (named (setting p) c.args.name (at place (here_of p c.args.state.now.here))) c.in-Ok.object c.go_on_with.result refl (c.in-Ok.ensures place) c.go_on_with.ensures

pub returns-in-Err : goal.returns-in-Err
returns-in-Err c = λ v place. let p = c.args.scene.now.program.now in
    named_err (act 1000 (setting p) (code_of c.args.scene.now) (i.Refer c.args.name) v (at place (here_of p c.args.state.now.here)) (state_of p c.args.state.now)) (code_of c.args.scene.now) p place c.args.state.now.store (state_of p c.args.state.now)
    (named (setting p) c.args.name (at place (here_of p c.args.state.now.here))) c.in-Err.stop (c.in-Err.ensures place)
