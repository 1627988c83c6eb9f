use Rattle.f3_accepted_laws.proofs.Accepted.{accepted_lawful}
use Rattle.f3_accepted_laws.proofs.accepted_is_lawful.Goals as goal

pub returns : goal.returns
returns c = accepted_lawful
