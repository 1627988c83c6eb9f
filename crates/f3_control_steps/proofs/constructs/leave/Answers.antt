use Rattle.std.proofs.Common.{refl}
use Rattle.f3_cells.proofs.Steps.{is_stuck, went_ahead_with}
use Rattle.f3_control_steps.proofs.constructs.leave.Goals as goal

pub returns-in_default : goal.returns-in_default
returns-in_default c = λ p limit g code v here size. is_stuck (c.in_default.ensures p _)

pub returns : goal.returns
returns c = λ p limit g code v here size. went_ahead_with code here.place p size c.ahead_with.ensures (rw (c.in-Some.ensures p, c.flow_of-flow.ensures, c.replace.ensures.after) refl)
