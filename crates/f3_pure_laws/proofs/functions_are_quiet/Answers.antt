use Rattle.f3_pure_laws.proofs.Same.{functions_are_quiet}
use Rattle.f3_pure_laws.proofs.functions_are_quiet.Goals as goal

pub returns : goal.returns
returns c = functions_are_quiet
