use Rattle.std.proofs.Common.{refl}
use Rattle.f3_cells.proofs.Steps.{moved_on}
use Rattle.f3_control_steps.proofs.constructs.set_place.Goals as goal

pub returns : goal.returns
returns c = λ p limit g code v. moved_on p c.advance.ensures refl
