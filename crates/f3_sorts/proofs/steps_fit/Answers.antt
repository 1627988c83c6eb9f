use Rattle.f3_sorts.proofs.Stepping.{steps_fit}
use Rattle.f3_sorts.proofs.steps_fit.Goals as goal

pub returns : goal.returns
returns c = steps_fit
