use Rattle.f3_type_rows.proofs.T9And10B.{t9_and10_b_show}
use Rattle.f3_type_rows.proofs.rows.t9_and10_b_show.Goals as goal

pub returns : goal.returns
returns c = t9_and10_b_show
