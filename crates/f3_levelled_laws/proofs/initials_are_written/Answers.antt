use Rattle.f3_levelled_laws.proofs.Initials.{written}
use Rattle.f3_levelled_laws.proofs.initials_are_written.Goals as goal

pub returns : goal.returns
returns c = written
