use Rattle.f3_meaning_laws.proofs.Growth.{runs_grow}
use Rattle.f3_meaning_laws.proofs.laws.runs_grow.Goals as goal

pub returns : goal.returns
returns c = runs_grow
