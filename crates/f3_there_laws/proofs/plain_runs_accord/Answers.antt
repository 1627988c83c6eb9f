use Rattle.f3_there_laws.proofs.Running.{plain_runs_accord}
use Rattle.f3_there_laws.proofs.plain_runs_accord.Goals as goal

pub returns : goal.returns
returns c = plain_runs_accord
