use Rattle.f3_meaning_rows.proofs.Rows9.{rows9_show}
use Rattle.f3_meaning_rows.proofs.rows.rows9_show.Goals as goal

pub returns : goal.returns
returns c = rows9_show
