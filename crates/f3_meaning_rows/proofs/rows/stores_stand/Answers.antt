use Rattle.f3_meaning_rows.proofs.Told.{stores_stand}
use Rattle.f3_meaning_rows.proofs.rows.stores_stand.Goals as goal

pub returns : goal.returns
returns c = stores_stand
