use Rattle.f3_cell_kinds.proofs.Starting.{start_fits}
use Rattle.f3_cell_kinds.proofs.start_fits.Goals as goal

pub returns : goal.returns
returns c = start_fits
