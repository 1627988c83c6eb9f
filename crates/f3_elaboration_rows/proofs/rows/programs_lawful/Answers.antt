use Rattle.f3_elaboration_rows.proofs.Programs.{programs_lawful}
use Rattle.f3_elaboration_rows.proofs.rows.programs_lawful.Goals as goal

pub returns : goal.returns
returns c = programs_lawful
