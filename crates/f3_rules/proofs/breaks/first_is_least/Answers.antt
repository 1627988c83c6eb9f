use Rattle.f3_rules.proofs.Firsts.{first_is_least}
use Rattle.f3_rules.proofs.breaks.first_is_least.Goals as goal

pub returns : goal.returns
returns c = first_is_least
