use Rattle.f3_type_rows.proofs.D1And2.{d1_and2_show}
use Rattle.f3_type_rows.proofs.rows.d1_and2_show.Goals as goal

pub returns : goal.returns
returns c = d1_and2_show
