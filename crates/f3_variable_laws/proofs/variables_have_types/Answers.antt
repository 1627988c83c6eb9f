use Rattle.f3_variable_laws.proofs.Bodies.{types}
use Rattle.f3_variable_laws.proofs.variables_have_types.Goals as goal

pub returns : goal.returns
returns c = types
