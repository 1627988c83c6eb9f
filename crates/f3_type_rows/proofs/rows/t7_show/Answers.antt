use Rattle.f3_type_rows.proofs.T7.{t7_show}
use Rattle.f3_type_rows.proofs.rows.t7_show.Goals as goal

pub returns : goal.returns
returns c = t7_show
