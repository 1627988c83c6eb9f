use Rattle.f3_meaning_rows.proofs.Formed.{are_well_formed}
use Rattle.f3_meaning_rows.proofs.rows.are_well_formed.Goals as goal

pub returns : goal.returns
returns c = are_well_formed
