use Rattle.f3_lawful_laws.proofs.Parts.{actions_run}
use Rattle.f3_lawful_laws.proofs.definitions_may_be.Goals as goal

pub returns : goal.returns
returns c = actions_run
