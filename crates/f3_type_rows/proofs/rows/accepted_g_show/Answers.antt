use Rattle.f3_type_rows.proofs.AcceptedG.{accepted_g_show}
use Rattle.f3_type_rows.proofs.rows.accepted_g_show.Goals as goal

pub returns : goal.returns
returns c = accepted_g_show
