use Rattle.f3_meaning_rows.proofs.Rows5.{rows5_show}
use Rattle.f3_meaning_rows.proofs.rows.rows5_show.Goals as goal

pub returns : goal.returns
returns c = rows5_show
