use Rattle.f3_elaboration_rows.proofs.Meant0.{meant0_show}
use Rattle.f3_elaboration_rows.proofs.rows.meant0_show.Goals as goal

pub returns : goal.returns
returns c = meant0_show
