use Rattle.f3_elaboration_rows.proofs.Meant1.{meant1_show}
use Rattle.f3_elaboration_rows.proofs.rows.meant1_show.Goals as goal

pub returns : goal.returns
returns c = meant1_show
