use Rattle.f3_type_rows.proofs.AcceptedC.{accepted_c_show}
use Rattle.f3_type_rows.proofs.rows.accepted_c_show.Goals as goal

pub returns : goal.returns
returns c = accepted_c_show
