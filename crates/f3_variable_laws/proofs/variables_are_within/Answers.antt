use Rattle.f3_variable_laws.proofs.Bodies.{within}
use Rattle.f3_variable_laws.proofs.variables_are_within.Goals as goal

pub returns : goal.returns
returns c = within
