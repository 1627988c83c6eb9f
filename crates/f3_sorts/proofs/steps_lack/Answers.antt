use Rattle.f3_sorts.proofs.Stepping.{steps_lack}
use Rattle.f3_sorts.proofs.steps_lack.Goals as goal

pub returns : goal.returns
returns c = steps_lack
