use Rattle.f3_levelled_laws.proofs.Whole.{makes_sense}
use Rattle.f3_levelled_laws.proofs.spelled_makes_sense.Goals as goal

pub returns : goal.returns
returns c = makes_sense
