use Rattle.f3_type_rows.proofs.T3To5.{t3_to5_show}
use Rattle.f3_type_rows.proofs.rows.t3_to5_show.Goals as goal

pub returns : goal.returns
returns c = t3_to5_show
