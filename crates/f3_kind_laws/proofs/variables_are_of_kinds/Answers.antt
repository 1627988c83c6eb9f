use Rattle.f3_kind_laws.proofs.Bodies.{shown}
use Rattle.f3_kind_laws.proofs.variables_are_of_kinds.Goals as goal

pub returns : goal.returns
returns c = shown
