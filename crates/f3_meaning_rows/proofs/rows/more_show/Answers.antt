use Rattle.f3_meaning_rows.proofs.More.{more_show}
use Rattle.f3_meaning_rows.proofs.rows.more_show.Goals as goal

pub returns : goal.returns
returns c = more_show
