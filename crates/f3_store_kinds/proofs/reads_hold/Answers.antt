use Rattle.f3_store_kinds.proofs.Reading.{reads_hold}
use Rattle.f3_store_kinds.proofs.reads_hold.Goals as goal

pub returns : goal.returns
returns c = reads_hold
