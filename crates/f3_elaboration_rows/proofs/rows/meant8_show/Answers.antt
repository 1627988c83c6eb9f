use Rattle.f3_elaboration_rows.proofs.Meant8.{meant8_show}
use Rattle.f3_elaboration_rows.proofs.rows.meant8_show.Goals as goal

pub returns : goal.returns
returns c = meant8_show
