use Rattle.std.proofs.Common.{refl}
use Rattle.f3_cells.proofs.Steps.{is_stuck, moved_on, went_ahead}
use Rattle.f3_control_steps.proofs.jumps.skip_if_true.Goals as goal

pub returns-in_default : goal.returns-in_default
returns-in_default c = λ p limit g code v here size. is_stuck (c.in_default.ensures p _)

pub returns-then-holds : goal.returns-then-holds
returns-then-holds c = λ p limit g code v here size. went_ahead code here.place p size c.ahead.ensures (rw (c.in-Some.ensures p, ← c.truth_of-holds.ensures, c.if-holds.true) refl)

pub returns-else-holds : goal.returns-else-holds
returns-else-holds c = λ p limit g code v here size. moved_on p c.advance.ensures (rw (c.in-Some.ensures p, ← c.truth_of-holds.ensures, c.if-holds.false) refl)
