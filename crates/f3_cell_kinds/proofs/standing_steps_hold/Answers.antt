use Rattle.f3_cell_kinds.proofs.ReadingSteps.{standing_steps_hold}
use Rattle.f3_cell_kinds.proofs.standing_steps_hold.Goals as goal

pub returns : goal.returns
returns c = standing_steps_hold
