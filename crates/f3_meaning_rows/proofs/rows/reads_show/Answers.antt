use Rattle.f3_meaning_rows.proofs.Told.{reads_show}
use Rattle.f3_meaning_rows.proofs.rows.reads_show.Goals as goal

pub returns : goal.returns
returns c = reads_show
