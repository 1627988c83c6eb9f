use Rattle.f3_meaning_rows.proofs.Rows2.{rows2_show}
use Rattle.f3_meaning_rows.proofs.rows.rows2_show.Goals as goal

pub returns : goal.returns
returns c = rows2_show
