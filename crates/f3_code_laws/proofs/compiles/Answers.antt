use Rattle.f3_code_laws.proofs.Whole.{behaves}
use Rattle.f3_code_laws.proofs.compiles.Goals as goal

pub returns : goal.returns
returns c = behaves
