use Rattle.f3_heights.proofs.Running.{starts_within}
use Rattle.f3_heights.proofs.starts_within.Goals as goal

pub returns : goal.returns
returns c = starts_within
