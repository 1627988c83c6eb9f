use Rattle.f3_type_rows.proofs.T2C.{t2_c_show}
use Rattle.f3_type_rows.proofs.rows.t2_c_show.Goals as goal

pub returns : goal.returns
returns c = t2_c_show
