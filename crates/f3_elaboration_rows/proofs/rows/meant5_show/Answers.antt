use Rattle.f3_elaboration_rows.proofs.Meant5.{meant5_show}
use Rattle.f3_elaboration_rows.proofs.rows.meant5_show.Goals as goal

pub returns : goal.returns
returns c = meant5_show
