use Rattle.f3_kind_laws.proofs.Behind.{behind}
use Rattle.f3_kind_laws.proofs.types_stand_behind.Goals as goal

pub returns : goal.returns
returns c = behind
