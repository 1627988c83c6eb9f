use Rattle.f3_lawful_laws.proofs.Parts.{blocks_run}
use Rattle.f3_lawful_laws.proofs.blocks_may_run.Goals as goal

pub returns : goal.returns
returns c = blocks_run
