use Rattle.f3_fitting_laws.proofs.InMemory.{expressions}
use Rattle.f3_fitting_laws.proofs.expressions_fit.Goals as goal

pub returns : goal.returns
returns c = expressions
