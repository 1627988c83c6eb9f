use Rattle.f3_core_rows.proofs.Shape.{objects_stand}
use Rattle.f3_core_rows.proofs.rows.objects_stand.Goals as goal

pub returns : goal.returns
returns c = objects_stand
