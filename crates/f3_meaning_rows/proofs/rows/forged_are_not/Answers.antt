use Rattle.f3_meaning_rows.proofs.Told.{forged_are_not}
use Rattle.f3_meaning_rows.proofs.rows.forged_are_not.Goals as goal

pub returns : goal.returns
returns c = forged_are_not
