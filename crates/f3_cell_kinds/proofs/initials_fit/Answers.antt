use Rattle.f3_cell_kinds.proofs.Initials.{initials_fit}
use Rattle.f3_cell_kinds.proofs.initials_fit.Goals as goal

pub returns : goal.returns
returns c = initials_fit
