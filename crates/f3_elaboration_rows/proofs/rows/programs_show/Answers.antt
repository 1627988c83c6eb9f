use Rattle.f3_elaboration_rows.proofs.Programs.{programs_show}
use Rattle.f3_elaboration_rows.proofs.rows.programs_show.Goals as goal

pub returns : goal.returns
returns c = programs_show
