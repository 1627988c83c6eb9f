use Rattle.std.proofs.Common.{refl, []}
use Rattle.f3_cells.proofs.Steps.{is_stuck, moved_on}
use Rattle.f3_control_steps.proofs.Parts.{failed, given}
use Rattle.f3_control_steps.proofs.jumps.check.Goals as goal

pub returns-in_default : goal.returns-in_default
returns-in_default c = λ p limit g code v here. is_stuck (c.in_default.ensures p _)

pub returns-in-Some-status : goal.returns-in-Some-status
returns-in-Some-status c = λ p limit g code v here. rw (c.in-Some.ensures p, c.in-Some-status.is) ([], failed _ _ _ _, refl)

pub returns-in-None : goal.returns-in-None
returns-in-None c = λ p limit g code v here. moved_on p c.advance.ensures (rw (c.in-Some.ensures p, c.in-None.is) (given _ _ _))
