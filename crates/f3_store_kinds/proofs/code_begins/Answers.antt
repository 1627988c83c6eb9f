use Rattle.f3_store_kinds.proofs.Running.{code_begins}
use Rattle.f3_store_kinds.proofs.code_begins.Goals as goal

pub returns : goal.returns
returns c = code_begins
