use Rattle.f3_elaboration_rows.proofs.Plain.{plains_stand}
use Rattle.f3_elaboration_rows.proofs.rows.plains_stand.Goals as goal

pub returns : goal.returns
returns c = plains_stand
