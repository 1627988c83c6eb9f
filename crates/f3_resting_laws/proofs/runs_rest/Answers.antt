use Rattle.f3_resting_laws.proofs.Resting as r
use Rattle.f3_resting_laws.proofs.runs_rest.Goals as goal

pub returns : goal.returns
returns c = r.runs_rest
