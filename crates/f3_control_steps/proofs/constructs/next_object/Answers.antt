use Rattle.std.proofs.Common.{refl}
use Rattle.f3_cells.proofs.Steps.{is_stuck, went_on, went_ahead_with}
use Rattle.f3_control_steps.proofs.constructs.next_object.Goals as goal

pub returns-in_default : goal.returns-in_default
returns-in_default c = λ p limit g code v here size. is_stuck (c.in_default.ensures p _)

pub returns-in_default-next_of : goal.returns-in_default-next_of
returns-in_default-next_of c = λ p limit g code v here size. went_ahead_with code here.place p size c.ahead_with.ensures (rw (c.in-Some.ensures p, c.in_default-next_of.ensures.0, c.in_default-next_of.ensures.1) refl)

pub returns : goal.returns
returns c = λ p limit g code v here size. went_on code here.place p c.go_on_with.ensures (rw (c.in-Some.ensures p, c.in_ok-push.ensures p, c.in-Some-next_of.ensures) refl)
