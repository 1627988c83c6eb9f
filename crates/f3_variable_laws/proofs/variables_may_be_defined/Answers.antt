use Rattle.f3_variable_laws.proofs.Bodies.{defines}
use Rattle.f3_variable_laws.proofs.variables_may_be_defined.Goals as goal

pub returns : goal.returns
returns c = defines
