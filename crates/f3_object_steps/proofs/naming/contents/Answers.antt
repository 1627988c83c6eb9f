use Rattle.std.proofs.Common.{[], refl}
use Rattle.f3_cells.specs.States.{granted}
use Rattle.f3_object_steps.proofs.Running.{where_some, where_none}
use Rattle.f3_object_steps.proofs.naming.contents.Goals as goal

pub returns-in-Some : goal.returns-in-Some
returns-in-Some c = λ here. ([], where_some _ _ _ _ c.in-Some.is (c.in-Ok.ensures here) granted, refl)

pub returns-in-None : goal.returns-in-None
returns-in-None c = λ here. ([], where_none _ _ _ c.in-None.is (c.in-Ok.ensures here) granted, refl)
