use Rattle.f3_accepted_laws.proofs.Sense.{accepted_sense}
use Rattle.f3_accepted_laws.proofs.accepted_makes_sense.Goals as goal

pub returns : goal.returns
returns c = accepted_sense
