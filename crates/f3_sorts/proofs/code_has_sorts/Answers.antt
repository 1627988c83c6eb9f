use Rattle.f3_sorts.proofs.OfProgram.{code_has_sorts}
use Rattle.f3_sorts.proofs.code_has_sorts.Goals as goal

pub returns : goal.returns
returns c = code_has_sorts
