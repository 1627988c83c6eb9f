use Rattle.f3_meaning_rows.proofs.Told.{changes_stand}
use Rattle.f3_meaning_rows.proofs.rows.changes_stand.Goals as goal

pub returns : goal.returns
returns c = changes_stand
