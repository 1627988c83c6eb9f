use Rattle.f3_bounded_laws.proofs.Units.{bounded}
use Rattle.f3_bounded_laws.proofs.bodies_are_bounded.Goals as goal

pub returns : goal.returns
returns c = bounded
