use Rattle.f3_pure_laws.proofs.Same.{pure_calls_are_quiet}
use Rattle.f3_pure_laws.proofs.pure_calls_are_quiet.Goals as goal

pub returns : goal.returns
returns c = pure_calls_are_quiet
