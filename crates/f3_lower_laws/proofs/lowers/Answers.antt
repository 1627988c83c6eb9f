use Rattle.f3_lower_laws.proofs.Whole.{lowers}
use Rattle.f3_lower_laws.proofs.lowers.Goals as goal

pub returns : goal.returns
returns c = lowers
