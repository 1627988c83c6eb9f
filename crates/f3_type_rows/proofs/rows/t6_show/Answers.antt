use Rattle.f3_type_rows.proofs.T6.{t6_show}
use Rattle.f3_type_rows.proofs.rows.t6_show.Goals as goal

pub returns : goal.returns
returns c = t6_show
