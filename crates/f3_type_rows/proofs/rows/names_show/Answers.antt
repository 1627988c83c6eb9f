use Rattle.f3_type_rows.proofs.Names.{names_show}
use Rattle.f3_type_rows.proofs.rows.names_show.Goals as goal

pub returns : goal.returns
returns c = names_show
