use Rattle.f3_access.proofs.Laws.{visible_declared}
use Rattle.f3_access.proofs.reading.visible_is_declared.Goals as goal

pub returns : goal.returns
returns c = visible_declared
