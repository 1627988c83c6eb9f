use Rattle.f3_purity_laws.proofs.Composed.{lawful_is_pure}
use Rattle.f3_purity_laws.proofs.lawful_is_pure.Goals as goal

pub returns : goal.returns
returns c = lawful_is_pure
