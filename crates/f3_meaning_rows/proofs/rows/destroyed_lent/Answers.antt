use Rattle.f3_meaning_rows.proofs.Told.{destroyed_lent}
use Rattle.f3_meaning_rows.proofs.rows.destroyed_lent.Goals as goal

pub returns : goal.returns
returns c = destroyed_lent
