use Rattle.f3_meaning_laws.proofs.Owners.{private_stays}
use Rattle.f3_meaning_laws.proofs.laws.private_stays.Goals as goal

pub returns : goal.returns
returns c = private_stays
