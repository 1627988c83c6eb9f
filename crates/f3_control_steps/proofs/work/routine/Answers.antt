use Rattle.f3_cells.specs.States.{code_of}
use Rattle.std.proofs.Common.{refl, []}
use Rattle.f3_cells.proofs.Steps.{is_stuck, went_on}
use Rattle.f3_control_steps.proofs.work.routine.Goals as goal

pub returns-in_default : goal.returns-in_default
returns-in_default c = λ v. is_stuck (c.in_default.ensures (c.args.scene.now.program.now) _)

pub returns-in_default-routine_line : goal.returns-in_default-routine_line
returns-in_default-routine_line c = λ v. went_on (code_of c.args.scene.now) c.args.place (c.args.scene.now.program.now) c.go_on_with.ensures (rw (c.in-Some.ensures (c.args.scene.now.program.now), ← c.deref.ensures.value, c.in_default-routine_line.ensures) refl)

pub returns : goal.returns
returns c = λ v. rw (c.in-Some.ensures (c.args.scene.now.program.now), ← c.deref.ensures.value, c.in-Some-routine_line.ensures, c.in_ok-push-2.ensures (c.args.scene.now.program.now), c.in_ok-push.ensures (c.args.scene.now.program.now)) ([], refl, refl)
