use Rattle.f3_cell_kinds.proofs.OfProgram.{code_has_kinds}
use Rattle.f3_cell_kinds.proofs.code_has_kinds.Goals as goal

pub returns : goal.returns
returns c = code_has_kinds
