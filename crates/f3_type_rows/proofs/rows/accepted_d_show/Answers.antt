use Rattle.f3_type_rows.proofs.AcceptedD.{accepted_d_show}
use Rattle.f3_type_rows.proofs.rows.accepted_d_show.Goals as goal

pub returns : goal.returns
returns c = accepted_d_show
