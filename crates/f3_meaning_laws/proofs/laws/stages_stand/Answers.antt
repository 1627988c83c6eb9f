use Rattle.f3_meaning_laws.proofs.Changes.{stages_stand}
use Rattle.f3_meaning_laws.proofs.laws.stages_stand.Goals as goal

pub returns : goal.returns
returns c = stages_stand
