use Rattle.std.proofs.Common.{refl}
use Rattle.f3_cells.proofs.Steps.{moved_on}
use Rattle.f3_control_steps.proofs.constructs.discard.Goals as goal

pub returns : goal.returns
returns c = λ p limit g code v here. moved_on p c.advance.ensures refl
