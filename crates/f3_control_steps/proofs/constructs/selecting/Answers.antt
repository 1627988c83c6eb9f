use Rattle.std.proofs.Common.{refl}
use Rattle.f3_cells.proofs.Steps.{is_stuck, went_on}
use Rattle.f3_control_steps.proofs.constructs.selecting.Goals as goal

pub returns-in_default : goal.returns-in_default
returns-in_default c = λ p limit g code v here. is_stuck (c.in_default.ensures p _)

pub returns : goal.returns
returns c = λ p limit g code v here. went_on code here.place p c.go_on_with.ensures (rw (c.in-Some.ensures p, c.replace-outer.ensures.after, c.replace-outer.ensures.value, c.in_ok-inner.ensures p) refl)
