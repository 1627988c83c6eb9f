use Rattle.f3_accepted_laws.proofs.Quiet.{accepted_pure}
use Rattle.f3_accepted_laws.proofs.accepted_is_pure.Goals as goal

pub returns : goal.returns
returns c = accepted_pure
