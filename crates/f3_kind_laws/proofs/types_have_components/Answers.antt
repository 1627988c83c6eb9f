use Rattle.f3_kind_laws.proofs.Types.{have_components}
use Rattle.f3_kind_laws.proofs.types_have_components.Goals as goal

pub returns : goal.returns
returns c = have_components
