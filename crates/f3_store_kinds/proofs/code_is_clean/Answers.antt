use Rattle.f3_store_kinds.proofs.Running.{code_is_clean}
use Rattle.f3_store_kinds.proofs.code_is_clean.Goals as goal

pub returns : goal.returns
returns c = code_is_clean
