use Rattle.f3_elaboration_rows.proofs.Meant6.{meant6_show}
use Rattle.f3_elaboration_rows.proofs.rows.meant6_show.Goals as goal

pub returns : goal.returns
returns c = meant6_show
