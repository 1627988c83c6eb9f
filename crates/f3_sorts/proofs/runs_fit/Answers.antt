use Rattle.f3_sorts.proofs.Running.{runs_fit}
use Rattle.f3_sorts.proofs.runs_fit.Goals as goal

pub returns : goal.returns
returns c = runs_fit
