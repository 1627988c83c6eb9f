use Rattle.f3_cell_kinds.proofs.Changing.{part_is}
use Rattle.f3_cell_kinds.proofs.parts_hold.Goals as goal

pub returns : goal.returns
returns c = part_is
