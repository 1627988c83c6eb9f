use Rattle.f3_meaning_rows.proofs.Rows3.{rows3_show}
use Rattle.f3_meaning_rows.proofs.rows.rows3_show.Goals as goal

pub returns : goal.returns
returns c = rows3_show
