use Rattle.f3_store_kinds.proofs.Running.{steps_accord}
use Rattle.f3_store_kinds.proofs.steps_accord.Goals as goal

pub returns : goal.returns
returns c = steps_accord
