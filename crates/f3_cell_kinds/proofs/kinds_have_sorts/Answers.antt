use Rattle.f3_cell_kinds.proofs.Sorting.{kinds_have_sorts}
use Rattle.f3_cell_kinds.proofs.kinds_have_sorts.Goals as goal

pub returns : goal.returns
returns c = kinds_have_sorts
