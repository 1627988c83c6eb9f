use Rattle.f3_accepted_code_laws.proofs.Accepted.{accepted_fits}
use Rattle.f3_accepted_code_laws.proofs.accepted_fits.Goals as goal

pub returns : goal.returns
returns c = accepted_fits
