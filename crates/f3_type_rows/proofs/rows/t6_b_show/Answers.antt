use Rattle.f3_type_rows.proofs.T6B.{t6_b_show}
use Rattle.f3_type_rows.proofs.rows.t6_b_show.Goals as goal

pub returns : goal.returns
returns c = t6_b_show
