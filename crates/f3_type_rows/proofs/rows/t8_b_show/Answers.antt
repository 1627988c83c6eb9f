use Rattle.f3_type_rows.proofs.T8B.{t8_b_show}
use Rattle.f3_type_rows.proofs.rows.t8_b_show.Goals as goal

pub returns : goal.returns
returns c = t8_b_show
