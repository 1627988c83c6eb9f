use Rattle.f3_sorts.proofs.Finding.{steps_find}
use Rattle.f3_sorts.proofs.steps_find.Goals as goal

pub returns : goal.returns
returns c = steps_find
