use Rattle.f3_sorts.proofs.Lengths.{sorts_have_heights}
use Rattle.f3_sorts.proofs.sorts_have_heights.Goals as goal

pub returns : goal.returns
returns c = sorts_have_heights
