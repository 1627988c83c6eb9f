use Rattle.f3_meaning_rows.proofs.Rows8.{rows8_show}
use Rattle.f3_meaning_rows.proofs.rows.rows8_show.Goals as goal

pub returns : goal.returns
returns c = rows8_show
