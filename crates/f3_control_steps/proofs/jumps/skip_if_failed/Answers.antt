use Rattle.std.proofs.Common.{refl}
use Rattle.f3_cells.proofs.Steps.{is_stuck, moved_on, went_ahead_with}
use Rattle.f3_control_steps.proofs.jumps.skip_if_failed.Goals as goal

pub returns-in_default : goal.returns-in_default
returns-in_default c = λ p limit g code v here size. is_stuck (c.in_default.ensures p _)

pub returns-in-Some-status : goal.returns-in-Some-status
returns-in-Some-status c = λ p limit g code v here size. went_ahead_with code here.place p size c.ahead_with.ensures (rw (c.in-Some.ensures p, c.in-Some-status.is) refl)

pub returns-in-None : goal.returns-in-None
returns-in-None c = λ p limit g code v here size. moved_on p c.advance.ensures (rw (c.in-Some.ensures p, c.in-None.is) refl)
