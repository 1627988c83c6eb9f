use Rattle.f3_store_kinds.proofs.Reading.{levels_end}
use Rattle.f3_store_kinds.proofs.levels_end.Goals as goal

pub returns : goal.returns
returns c = levels_end
