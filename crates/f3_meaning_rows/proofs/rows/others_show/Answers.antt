use Rattle.f3_meaning_rows.proofs.Others.{others_show}
use Rattle.f3_meaning_rows.proofs.rows.others_show.Goals as goal

pub returns : goal.returns
returns c = others_show
