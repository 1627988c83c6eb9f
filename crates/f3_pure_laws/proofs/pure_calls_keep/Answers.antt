use Rattle.f3_pure_laws.proofs.Same.{pure_calls_keep}
use Rattle.f3_pure_laws.proofs.pure_calls_keep.Goals as goal

pub returns : goal.returns
returns c = pure_calls_keep
