use Rattle.f3_elaboration_rows.proofs.Meant7.{meant7_show}
use Rattle.f3_elaboration_rows.proofs.rows.meant7_show.Goals as goal

pub returns : goal.returns
returns c = meant7_show
