use Rattle.std.proofs.Common.{refl}
use Rattle.f3_cells.proofs.Steps.{went_on}
use Rattle.f3_control_steps.proofs.values.push.Goals as goal

pub returns : goal.returns
returns c = λ p limit g code v here. went_on code here.place p c.go_on_with.ensures (rw (c.constant.ensures) refl)
