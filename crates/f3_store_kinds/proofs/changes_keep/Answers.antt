use Rattle.f3_store_kinds.proofs.Reading.{changes_keep}
use Rattle.f3_store_kinds.proofs.changes_keep.Goals as goal

pub returns : goal.returns
returns c = changes_keep
