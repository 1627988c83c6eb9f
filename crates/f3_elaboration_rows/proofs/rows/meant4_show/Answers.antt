use Rattle.f3_elaboration_rows.proofs.Meant4.{meant4_show}
use Rattle.f3_elaboration_rows.proofs.rows.meant4_show.Goals as goal

pub returns : goal.returns
returns c = meant4_show
