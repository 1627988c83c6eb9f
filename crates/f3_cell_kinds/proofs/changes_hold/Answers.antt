use Rattle.f3_cell_kinds.proofs.Changing.{changed_is}
use Rattle.f3_cell_kinds.proofs.changes_hold.Goals as goal

pub returns : goal.returns
returns c = changed_is
