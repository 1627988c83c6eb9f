use Rattle.f3_store_kinds.proofs.Standing.{parts_stand}
use Rattle.f3_store_kinds.proofs.parts_stand.Goals as goal

pub returns : goal.returns
returns c = parts_stand
