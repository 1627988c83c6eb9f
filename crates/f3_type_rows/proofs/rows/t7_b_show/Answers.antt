use Rattle.f3_type_rows.proofs.T7B.{t7_b_show}
use Rattle.f3_type_rows.proofs.rows.t7_b_show.Goals as goal

pub returns : goal.returns
returns c = t7_b_show
