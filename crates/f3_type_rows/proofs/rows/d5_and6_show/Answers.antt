use Rattle.f3_type_rows.proofs.D5And6.{d5_and6_show}
use Rattle.f3_type_rows.proofs.rows.d5_and6_show.Goals as goal

pub returns : goal.returns
returns c = d5_and6_show
