use Rattle.f3_elaboration_rows.proofs.Meant2.{meant2_show}
use Rattle.f3_elaboration_rows.proofs.rows.meant2_show.Goals as goal

pub returns : goal.returns
returns c = meant2_show
