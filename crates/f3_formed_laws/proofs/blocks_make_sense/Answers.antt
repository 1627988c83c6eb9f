use Rattle.f3_formed_laws.proofs.InMemory.{blocks_make}
use Rattle.f3_formed_laws.proofs.blocks_make_sense.Goals as goal

pub returns : goal.returns
returns c = blocks_make
