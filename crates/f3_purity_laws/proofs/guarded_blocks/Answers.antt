use Rattle.f3_purity_laws.proofs.Guarded.{guarded_blocks}
use Rattle.f3_purity_laws.proofs.guarded_blocks.Goals as goal

pub returns : goal.returns
returns c = guarded_blocks
