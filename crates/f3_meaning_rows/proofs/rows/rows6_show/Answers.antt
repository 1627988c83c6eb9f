use Rattle.f3_meaning_rows.proofs.Rows6.{rows6_show}
use Rattle.f3_meaning_rows.proofs.rows.rows6_show.Goals as goal

pub returns : goal.returns
returns c = rows6_show
