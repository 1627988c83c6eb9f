use Rattle.f3_store_kinds.proofs.Running.{start_accords}
use Rattle.f3_store_kinds.proofs.start_accords.Goals as goal

pub returns : goal.returns
returns c = start_accords
