use Rattle.f3_lawful_laws.proofs.Whole.{lawful}
use Rattle.f3_lawful_laws.proofs.unbroken_is_lawful.Goals as goal

pub returns : goal.returns
returns c = lawful
