use Rattle.f3_machine_laws.proofs.Meant as meant
use Rattle.f3_machine_laws.proofs.answers_mean.Goals as goal

pub returns : goal.returns
returns c = meant.answers_mean
