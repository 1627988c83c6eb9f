use Rattle.f3_type_rows.proofs.T2.{t2_show}
use Rattle.f3_type_rows.proofs.rows.t2_show.Goals as goal

pub returns : goal.returns
returns c = t2_show
