use Rattle.f3_store_kinds.proofs.Reading.{puts_keep}
use Rattle.f3_store_kinds.proofs.puts_keep.Goals as goal

pub returns : goal.returns
returns c = puts_keep
