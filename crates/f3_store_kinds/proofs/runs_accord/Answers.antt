use Rattle.f3_store_kinds.proofs.Standing.{runs_accord}
use Rattle.f3_store_kinds.proofs.runs_accord.Goals as goal

pub returns : goal.returns
returns c = runs_accord
