use Rattle.f3_type_rows.proofs.T3To5B.{t3_to5_b_show}
use Rattle.f3_type_rows.proofs.rows.t3_to5_b_show.Goals as goal

pub returns : goal.returns
returns c = t3_to5_b_show
