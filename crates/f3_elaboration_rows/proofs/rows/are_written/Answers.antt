use Rattle.f3_elaboration_rows.proofs.Written.{are_written}
use Rattle.f3_elaboration_rows.proofs.rows.are_written.Goals as goal

pub returns : goal.returns
returns c = are_written
