use Rattle.std.proofs.Common.{[], refl}
use Rattle.f3_cells.specs.States.{granted}
use Rattle.f3_object_steps.proofs.naming.named.Goals as goal

pub returns-in-Ok : goal.returns-in-Ok
returns-in-Ok c = λ place. ([], c.in-Ok.ensures place granted, refl)
