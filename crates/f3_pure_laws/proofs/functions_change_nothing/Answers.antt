use Rattle.f3_pure_laws.proofs.Same.{functions_change_nothing}
use Rattle.f3_pure_laws.proofs.functions_change_nothing.Goals as goal

pub returns : goal.returns
returns c = functions_change_nothing
