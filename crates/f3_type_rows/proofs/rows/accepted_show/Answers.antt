use Rattle.f3_type_rows.proofs.Accepted.{accepted_show}
use Rattle.f3_type_rows.proofs.rows.accepted_show.Goals as goal

pub returns : goal.returns
returns c = accepted_show
