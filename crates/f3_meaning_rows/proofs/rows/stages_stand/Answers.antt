use Rattle.f3_meaning_rows.proofs.Stages.{stages_stand}
use Rattle.f3_meaning_rows.proofs.rows.stages_stand.Goals as goal

pub returns : goal.returns
returns c = stages_stand
