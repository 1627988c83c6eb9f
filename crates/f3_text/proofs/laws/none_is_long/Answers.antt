use Rattle.f3_text.proofs.Limits.{none_is_long}
use Rattle.f3_text.proofs.laws.none_is_long.Goals as goal

pub returns : goal.returns
returns c = none_is_long
