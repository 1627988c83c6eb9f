use Rattle.f3_type_rows.proofs.AcceptedB.{accepted_b_show}
use Rattle.f3_type_rows.proofs.rows.accepted_b_show.Goals as goal

pub returns : goal.returns
returns c = accepted_b_show
