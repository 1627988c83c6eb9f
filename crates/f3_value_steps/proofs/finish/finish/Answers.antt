use Rattle.std.proofs.Common.{[], refl}
use Rattle.f3_cells.proofs.Steps.{went_on}
use Rattle.f3_value_steps.proofs.Ends.{performs_gives, performs_fails}
use Rattle.f3_value_steps.proofs.finish.finish.Goals as goal

pub returns-in-Ok : goal.returns-in-Ok
returns-in-Ok c = λ p code place. went_on code place p c.go_on_with.ensures (rw c.in-Ok.is (performs_gives _ _ _))

pub returns-in-Err : goal.returns-in-Err
returns-in-Err c = λ p code place. ([], rw c.in-Err.is (performs_fails _ _ _ _), refl)
