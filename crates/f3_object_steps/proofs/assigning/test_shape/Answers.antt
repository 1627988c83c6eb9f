use Rattle.std.proofs.Common.{refl, sym, ◌∙◌}
use Rattle.f3_meaning_whole.specs.declared.run_error.RunError.TheVariants.{ShapesDiffer}
use Rattle.f3_meaning_whole.specs.Value.{conforms}
use Rattle.f3_meaning_whole.specs.Reference.{spans}
use Rattle.f3_data.specs.Values.{value_of}
use Rattle.f3_data.specs.References.{reference_of}
use Rattle.f3_code.specs.declared.instruction.Instruction.TheVariants as i
use Rattle.f3_code.specs.Machine.{act, tested}
use Rattle.f3_cells.specs.States.{state_of}
use Rattle.f3_object_steps.proofs.Running.{tested_true, tested_false}
use Rattle.f3_object_steps.proofs.Forms.{tested_none, tested_stuck, tested_ok, tested_err}
use Rattle.f3_object_steps.proofs.assigning.test_shape.Goals as goal

pub returns-in_default : goal.returns-in_default
returns-in_default c = λ p limit g code v here.
    tested_none (act limit g code i.TestShape v here (state_of p c.args.state.now)) code p c.args.state.now (λ r x. tested (conforms (spans r.reach) x) ShapesDiffer here) (state_of p c.args.state.now) here.place
    refl c.in_default.ensures

pub returns-in_default-datum_at : goal.returns-in_default-datum_at
returns-in_default-datum_at c = λ p limit g code v here.
    tested_stuck (act limit g code i.TestShape v here (state_of p c.args.state.now)) code p c.args.state.now (λ r x. tested (conforms (spans r.reach) x) ShapesDiffer here) (reference_of c.in-Some.object.now)
    (state_of p c.args.state.now) here.place refl c.in-Some.ensures c.in_default-datum_at.ensures

pub returns-then-has_shape : goal.returns-then-has_shape
returns-then-has_shape c = λ p limit g code v here.
    tested_ok (act limit g code i.TestShape v here (state_of p c.args.state.now)) code p here.place c.args.state.now c.advance.new.self (λ r x. tested (conforms (spans r.reach) x) ShapesDiffer here)
    (reference_of c.in-Some.object.now) (value_of c.in-Some-datum_at.value.now) refl c.in-Some.ensures c.in-Some-datum_at.ensures
    (tested_true (conforms (spans (reference_of c.in-Some.object.now).reach) (value_of c.in-Some-datum_at.value.now)) ShapesDiffer here c.args.state.now.store (sym c.has_shape.ensures ∙ c.if-has_shape.true)) c.advance.ensures

pub returns-else-has_shape : goal.returns-else-has_shape
returns-else-has_shape c = λ p limit g code v here.
    tested_err (act limit g code i.TestShape v here (state_of p c.args.state.now)) code p here.place c.args.state.now (state_of p c.args.state.now) (λ r x. tested (conforms (spans r.reach) x) ShapesDiffer here)
    (reference_of c.in-Some.object.now) (value_of c.in-Some-datum_at.value.now) ShapesDiffer refl c.in-Some.ensures c.in-Some-datum_at.ensures
    (tested_false (conforms (spans (reference_of c.in-Some.object.now).reach) (value_of c.in-Some-datum_at.value.now)) ShapesDiffer here c.args.state.now.store (sym c.has_shape.ensures ∙ c.if-has_shape.false))
