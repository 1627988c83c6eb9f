use Rattle.f3_accepted_code_laws.proofs.Accepted.{accepted_runs}
use Rattle.f3_accepted_code_laws.proofs.accepted_runs_hold.Goals as goal

pub returns : goal.returns
returns c = accepted_runs
