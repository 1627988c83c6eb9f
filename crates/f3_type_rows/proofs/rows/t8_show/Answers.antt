use Rattle.f3_type_rows.proofs.T8.{t8_show}
use Rattle.f3_type_rows.proofs.rows.t8_show.Goals as goal

pub returns : goal.returns
returns c = t8_show
