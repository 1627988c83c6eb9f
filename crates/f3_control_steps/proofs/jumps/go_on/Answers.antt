use Rattle.std.proofs.Common.{refl}
use Rattle.f3_cells.proofs.Steps.{went_ahead}
use Rattle.f3_control_steps.proofs.jumps.go_on.Goals as goal

pub returns : goal.returns
returns c = λ p limit g code v here size. went_ahead code here.place p size c.ahead.ensures refl
