use Rattle.f3_purity_laws.proofs.Calling.{blocks_call_pure}
use Rattle.f3_purity_laws.proofs.blocks_call_pure.Goals as goal

pub returns : goal.returns
returns c = blocks_call_pure
