use Rattle.f3_type_rows.proofs.T1.{t1_show}
use Rattle.f3_type_rows.proofs.rows.t1_show.Goals as goal

pub returns : goal.returns
returns c = t1_show
