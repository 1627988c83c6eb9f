use Rattle.std.proofs.Common.{refl}
use Rattle.f3_code.specs.declared.instruction.Instruction.TheVariants as i
use Rattle.f3_code.specs.Machine.{act}
use Rattle.f3_cells.specs.States.{state_of}
use Rattle.f3_object_steps.specs.Parts.{fills, on_assigned}
use Rattle.f3_object_steps.proofs.Forms.{assigned_stuck, assigned_ok, assigned_err}
use Rattle.f3_object_steps.proofs.assigning.fill.Goals as goal

pub returns-in_default : goal.returns-in_default
returns-in_default c = λ p limit g code v here.
    assigned_stuck on_assigned (act limit g code (i.Fill c.args.of) v here (state_of p c.args.state.now)) code p c.args.state.now (λ r x. fills c.args.of r x here) c.pop_assigned.new.stack.items (state_of p c.args.state.now) here.place
    refl c.in_default.ensures

pub returns-in-Ok : goal.returns-in-Ok
returns-in-Ok c = λ p limit g code v here.
    assigned_ok on_assigned (act limit g code (i.Fill c.args.of) v here (state_of p c.args.state.now)) code p here c.args.state.now c.advance.new.self (λ here r x. fills c.args.of r x here)
    c.pop_assigned.new.stack c.assign.new.store c.in-Some.object c.in-Some.value refl c.in-Some.ensures c.in-Ok.ensures.fill c.advance.ensures.is

pub returns-in-Err : goal.returns-in-Err
returns-in-Err c = λ p limit g code v here.
    assigned_err on_assigned (act limit g code (i.Fill c.args.of) v here (state_of p c.args.state.now)) code p here c.args.state.now (state_of p c.args.state.now) (λ here r x. fills c.args.of r x here)
    c.pop_assigned.new.stack.items c.assign.new.store c.in-Some.object c.in-Some.value c.in-Err.stop refl c.in-Some.ensures c.in-Err.ensures.fill
