use Rattle.f3_initial_laws.proofs.Whole.{initials}
use Rattle.f3_initial_laws.proofs.initials_are_of_types.Goals as goal

pub returns : goal.returns
returns c = initials
