use Rattle.f3_accepted_code_laws.proofs.Accepted.{accepted_has_kinds}
use Rattle.f3_accepted_code_laws.proofs.accepted_code_has_kinds.Goals as goal

pub returns : goal.returns
returns c = accepted_has_kinds
