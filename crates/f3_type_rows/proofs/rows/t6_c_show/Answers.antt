use Rattle.f3_type_rows.proofs.T6C.{t6_c_show}
use Rattle.f3_type_rows.proofs.rows.t6_c_show.Goals as goal

pub returns : goal.returns
returns c = t6_c_show
