use Rattle.f3_type_rows.proofs.NamesB.{names_b_show}
use Rattle.f3_type_rows.proofs.rows.names_b_show.Goals as goal

pub returns : goal.returns
returns c = names_b_show
