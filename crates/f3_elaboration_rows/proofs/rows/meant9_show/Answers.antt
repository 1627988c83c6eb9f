use Rattle.f3_elaboration_rows.proofs.Meant9.{meant9_show}
use Rattle.f3_elaboration_rows.proofs.rows.meant9_show.Goals as goal

pub returns : goal.returns
returns c = meant9_show
