use Rattle.f3_meaning_rows.proofs.Rows4.{rows4_show}
use Rattle.f3_meaning_rows.proofs.rows.rows4_show.Goals as goal

pub returns : goal.returns
returns c = rows4_show
