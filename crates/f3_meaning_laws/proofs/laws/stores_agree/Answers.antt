use Rattle.f3_meaning_laws.proofs.Frame.{stores_agree}
use Rattle.f3_meaning_laws.proofs.laws.stores_agree.Goals as goal

pub returns : goal.returns
returns c = stores_agree
