use Rattle.f3_meaning_laws.proofs.Owners.{protected_stays}
use Rattle.f3_meaning_laws.proofs.laws.protected_stays.Goals as goal

pub returns : goal.returns
returns c = protected_stays
