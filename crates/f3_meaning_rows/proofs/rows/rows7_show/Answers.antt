use Rattle.f3_meaning_rows.proofs.Rows7.{rows7_show}
use Rattle.f3_meaning_rows.proofs.rows.rows7_show.Goals as goal

pub returns : goal.returns
returns c = rows7_show
