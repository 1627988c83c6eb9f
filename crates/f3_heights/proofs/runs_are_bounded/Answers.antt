use Rattle.f3_heights.proofs.Running.{runs_are_bounded}
use Rattle.f3_heights.proofs.runs_are_bounded.Goals as goal

pub returns : goal.returns
returns c = runs_are_bounded
