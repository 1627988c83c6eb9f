use Rattle.f3_part_stretches.proofs.Taking.{parts_take_on}
use Rattle.f3_part_stretches.proofs.parts_take_on.Goals as goal

pub returns : goal.returns
returns c = parts_take_on
