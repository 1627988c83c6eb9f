use Rattle.f3_machine_laws.proofs.Meant as meant
use Rattle.f3_machine_laws.proofs.limits_suffice.Goals as goal

pub returns : goal.returns
returns c = meant.suffice
