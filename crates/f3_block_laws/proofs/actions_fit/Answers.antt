use Rattle.f3_block_laws.proofs.InMemory.{actions}
use Rattle.f3_block_laws.proofs.actions_fit.Goals as goal

pub returns : goal.returns
returns c = actions
