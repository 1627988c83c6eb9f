use Rattle.f3_type_rows.proofs.T11And12.{t11_and12_show}
use Rattle.f3_type_rows.proofs.rows.t11_and12_show.Goals as goal

pub returns : goal.returns
returns c = t11_and12_show
