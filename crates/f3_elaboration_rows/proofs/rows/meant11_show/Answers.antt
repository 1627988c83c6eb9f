use Rattle.f3_elaboration_rows.proofs.Meant11.{meant11_show}
use Rattle.f3_elaboration_rows.proofs.rows.meant11_show.Goals as goal

pub returns : goal.returns
returns c = meant11_show
