use Rattle.std.proofs.Common.{refl}
use Rattle.f3_cells.proofs.Steps.{is_stuck, moved_on}
use Rattle.f3_control_steps.proofs.work.lend.Goals as goal

pub returns-in_default : goal.returns-in_default
returns-in_default c = λ p limit g code v here. is_stuck (c.in_default.ensures p _)

pub returns : goal.returns
returns c = λ p limit g code v here. moved_on p c.advance.ensures (rw (c.in-Some.ensures p, c.in_ok-lend.ensures, c.in_ok-object.ensures) refl)
