use Rattle.f3_desc.proofs.Counts.{counts-steps}
use Rattle.f3_desc.proofs.laws.counts_steps.Goals as goal

pub returns : goal.returns
returns c = counts-steps
