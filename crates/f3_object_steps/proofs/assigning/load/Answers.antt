use Rattle.std.proofs.Common.{refl}
use Rattle.f3_meaning_whole.specs.Act.{read}
use Rattle.f3_data.specs.Values.{value_of}
use Rattle.f3_code.specs.declared.instruction.Instruction.TheVariants as i
use Rattle.f3_code.specs.State as s
use Rattle.f3_code.specs.Machine.{act}
use Rattle.f3_cells.specs.declared.cell.Cell.TheVariants as cell
use Rattle.f3_cells.specs.States.{state_of}
use Rattle.f3_object_steps.proofs.Forms.{left_stuck, left_ok, left_err}
use Rattle.f3_object_steps.proofs.assigning.load.Goals as goal

pub returns-in_default : goal.returns-in_default
returns-in_default c = λ p limit g code v here.
    left_stuck value_of s.Datum cell.Datum (act limit g code i.Load v here (state_of p c.args.state.now)) code p c.args.state.now (λ r. read r here) c.pop_object.new.stack.items (state_of p c.args.state.now) here.place
    refl c.in_default.ensures

pub returns-in-Ok : goal.returns-in-Ok
returns-in-Ok c = λ p limit g code v here.
    left_ok value_of s.Datum cell.Datum (act limit g code i.Load v here (state_of p c.args.state.now)) code p here c.args.state.now c.go_on_with.new.self (λ here r. read r here)
    c.pop_object.new.stack c.in-Some.object c.in-Ok.value c.go_on_with.result refl c.in-Some.ensures c.in-Ok.ensures refl c.go_on_with.ensures

pub returns-in-Err : goal.returns-in-Err
returns-in-Err c = λ p limit g code v here.
    left_err value_of s.Datum cell.Datum (act limit g code i.Load v here (state_of p c.args.state.now)) code p here c.args.state.now (state_of p c.args.state.now) (λ here r. read r here)
    c.pop_object.new.stack.items c.in-Some.object c.in-Err.stop refl c.in-Some.ensures c.in-Err.ensures
