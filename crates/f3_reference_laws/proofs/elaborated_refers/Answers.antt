use Rattle.f3_reference_laws.proofs.Whole.{elaborated_refers}
use Rattle.f3_reference_laws.proofs.elaborated_refers.Goals as goal

pub returns : goal.returns
returns c = elaborated_refers
