use Rattle.f3_block_laws.proofs.InMemory.{blocks}
use Rattle.f3_block_laws.proofs.blocks_fit.Goals as goal

pub returns : goal.returns
returns c = blocks
