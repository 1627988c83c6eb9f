use Rattle.f3_pure_laws.proofs.Ending.{harmless_may_end}
use Rattle.f3_pure_laws.proofs.harmless_may_end.Goals as goal

pub returns : goal.returns
returns c = harmless_may_end
