use Rattle.f3_kind_laws.proofs.Given.{constants}
use Rattle.f3_kind_laws.proofs.constants_are_of_types.Goals as goal

pub returns : goal.returns
returns c = constants
