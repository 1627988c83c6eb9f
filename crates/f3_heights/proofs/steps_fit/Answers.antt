use Rattle.f3_heights.proofs.Plain.{steps_fit}
use Rattle.f3_heights.proofs.steps_fit.Goals as goal

pub returns : goal.returns
returns c = steps_fit
