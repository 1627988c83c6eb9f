use Rattle.std.proofs.Common.{refl}
use Rattle.f3_cells.proofs.Steps.{moved_on}
use Rattle.f3_control_steps.proofs.work.unlend.Goals as goal

pub returns : goal.returns
returns c = λ p limit g code v here. moved_on p c.advance.ensures (rw (c.in_ok-unlend.ensures) refl)
