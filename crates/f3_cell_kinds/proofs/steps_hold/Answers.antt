use Rattle.f3_cell_kinds.proofs.Stepping.{steps_hold}
use Rattle.f3_cell_kinds.proofs.steps_hold.Goals as goal

pub returns : goal.returns
returns c = steps_hold
