use Rattle.f3_spelled_laws.proofs.Units.{bodies}
use Rattle.f3_spelled_laws.proofs.bodies_are_spelled.Goals as goal

pub returns : goal.returns
returns c = bodies
