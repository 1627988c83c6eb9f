use Rattle.f3_type_rows.proofs.AcceptedF.{accepted_f_show}
use Rattle.f3_type_rows.proofs.rows.accepted_f_show.Goals as goal

pub returns : goal.returns
returns c = accepted_f_show
