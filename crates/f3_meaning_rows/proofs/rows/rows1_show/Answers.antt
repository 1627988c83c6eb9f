use Rattle.f3_meaning_rows.proofs.Rows1.{rows1_show}
use Rattle.f3_meaning_rows.proofs.rows.rows1_show.Goals as goal

pub returns : goal.returns
returns c = rows1_show
