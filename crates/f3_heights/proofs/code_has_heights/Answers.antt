use Rattle.f3_heights.proofs.OfProgram.{code_has_heights}
use Rattle.f3_heights.proofs.code_has_heights.Goals as goal

pub returns : goal.returns
returns c = code_has_heights
