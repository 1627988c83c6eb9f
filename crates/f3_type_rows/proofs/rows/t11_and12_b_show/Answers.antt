use Rattle.f3_type_rows.proofs.T11And12B.{t11_and12_b_show}
use Rattle.f3_type_rows.proofs.rows.t11_and12_b_show.Goals as goal

pub returns : goal.returns
returns c = t11_and12_b_show
