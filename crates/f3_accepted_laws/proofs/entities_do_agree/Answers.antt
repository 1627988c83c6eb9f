use Rattle.f3_accepted_laws.proofs.Accepted.{agree}
use Rattle.f3_accepted_laws.proofs.entities_do_agree.Goals as goal

pub returns : goal.returns
returns c = agree
