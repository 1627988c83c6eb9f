use Rattle.f3_meaning_rows.proofs.Rows0.{rows0_show}
use Rattle.f3_meaning_rows.proofs.rows.rows0_show.Goals as goal

pub returns : goal.returns
returns c = rows0_show
