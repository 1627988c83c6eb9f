use Rattle.f3_type_rows.proofs.T2B.{t2_b_show}
use Rattle.f3_type_rows.proofs.rows.t2_b_show.Goals as goal

pub returns : goal.returns
returns c = t2_b_show
