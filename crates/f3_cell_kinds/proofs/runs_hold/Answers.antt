use Rattle.f3_cell_kinds.proofs.Running.{runs_hold}
use Rattle.f3_cell_kinds.proofs.runs_hold.Goals as goal

pub returns : goal.returns
returns c = runs_hold
