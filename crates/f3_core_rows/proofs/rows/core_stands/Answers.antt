use Rattle.f3_core_rows.proofs.Shape.{core_stands}
use Rattle.f3_core_rows.proofs.rows.core_stands.Goals as goal

pub returns : goal.returns
returns c = core_stands
