use Rattle.std.proofs.Common.{refl}
use Rattle.f3_cells.proofs.Steps.{went_on}
use Rattle.f3_control_steps.proofs.constructs.meets.Goals as goal

pub returns : goal.returns
returns c = λ place p limit g code v. went_on code place p c.go_on_with.ensures (rw (c.meets-is_met.ensures) refl)
