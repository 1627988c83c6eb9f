use Rattle.f3_elaboration_rows.proofs.Meant10.{meant10_show}
use Rattle.f3_elaboration_rows.proofs.rows.meant10_show.Goals as goal

pub returns : goal.returns
returns c = meant10_show
