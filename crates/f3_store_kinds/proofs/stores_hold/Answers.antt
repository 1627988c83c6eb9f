use Rattle.f3_store_kinds.proofs.Running.{stores_hold}
use Rattle.f3_store_kinds.proofs.stores_hold.Goals as goal

pub returns : goal.returns
returns c = stores_hold
