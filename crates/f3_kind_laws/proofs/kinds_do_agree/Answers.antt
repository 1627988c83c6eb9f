use Rattle.f3_kind_laws.proofs.Whole.{agree}
use Rattle.f3_kind_laws.proofs.kinds_do_agree.Goals as goal

pub returns : goal.returns
returns c = agree
