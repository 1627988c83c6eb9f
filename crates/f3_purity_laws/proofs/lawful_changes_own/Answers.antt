use Rattle.f3_purity_laws.proofs.Owning.{lawful_changes_own}
use Rattle.f3_purity_laws.proofs.lawful_changes_own.Goals as goal

pub returns : goal.returns
returns c = lawful_changes_own
