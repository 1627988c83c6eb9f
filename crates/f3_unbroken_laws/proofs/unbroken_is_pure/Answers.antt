use Rattle.f3_unbroken_laws.proofs.Whole.{unbroken_is_pure}
use Rattle.f3_unbroken_laws.proofs.unbroken_is_pure.Goals as goal

pub returns : goal.returns
returns c = unbroken_is_pure
