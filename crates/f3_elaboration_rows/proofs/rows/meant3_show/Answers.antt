use Rattle.f3_elaboration_rows.proofs.Meant3.{meant3_show}
use Rattle.f3_elaboration_rows.proofs.rows.meant3_show.Goals as goal

pub returns : goal.returns
returns c = meant3_show
