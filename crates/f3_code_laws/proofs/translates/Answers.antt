use Rattle.f3_code_laws.proofs.Source.{translated}
use Rattle.f3_code_laws.proofs.translates.Goals as goal

pub returns : goal.returns
returns c = translated
