use Rattle.f3_formed_laws.proofs.InMemory.{actions_make}
use Rattle.f3_formed_laws.proofs.actions_make_sense.Goals as goal

pub returns : goal.returns
returns c = actions_make
