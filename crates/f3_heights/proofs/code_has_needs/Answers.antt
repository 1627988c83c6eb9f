use Rattle.f3_heights.proofs.Running.{code_has_needs}
use Rattle.f3_heights.proofs.code_has_needs.Goals as goal

pub returns : goal.returns
returns c = code_has_needs
