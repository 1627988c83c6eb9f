use Rattle.f3_constant_laws.proofs.Units.{units_kept}
use Rattle.f3_constant_laws.proofs.constants_are_kept.Goals as goal

pub returns : goal.returns
returns c = units_kept
