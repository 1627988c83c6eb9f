use Rattle.f3_formed_laws.proofs.Whole.{well_formed}
use Rattle.f3_formed_laws.proofs.unbroken_makes_sense.Goals as goal

pub returns : goal.returns
returns c = well_formed
