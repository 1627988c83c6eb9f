use Rattle.f3_type_rows.proofs.D3And4B.{d3_and4_b_show}
use Rattle.f3_type_rows.proofs.rows.d3_and4_b_show.Goals as goal

pub returns : goal.returns
returns c = d3_and4_b_show
