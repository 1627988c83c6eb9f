use Rattle.f3_agreement_laws.proofs.Known as known
use Rattle.f3_agreement_laws.proofs.types_are_known.Goals as goal

pub returns : goal.returns
returns c = known.known
