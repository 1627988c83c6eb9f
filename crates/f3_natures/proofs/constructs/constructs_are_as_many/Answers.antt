use Rattle.f3_natures.proofs.Owned.{as_many}
use Rattle.f3_natures.proofs.constructs.constructs_are_as_many.Goals as goal

pub returns : goal.returns
returns c = as_many
