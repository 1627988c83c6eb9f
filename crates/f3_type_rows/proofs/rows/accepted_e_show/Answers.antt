use Rattle.f3_type_rows.proofs.AcceptedE.{accepted_e_show}
use Rattle.f3_type_rows.proofs.rows.accepted_e_show.Goals as goal

pub returns : goal.returns
returns c = accepted_e_show
