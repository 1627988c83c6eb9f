use Rattle.std.proofs.Common.{refl}
use Rattle.f3_cells.proofs.Steps.{is_stuck, moved_on, went_ahead}
use Rattle.f3_control_steps.proofs.constructs.depart.Goals as goal

pub returns-in_default : goal.returns-in_default
returns-in_default c = λ p limit g code v here size. is_stuck (c.in_default.ensures p _)

pub returns-in-Onward : goal.returns-in-Onward
returns-in-Onward c = λ p limit g code v here size. went_ahead code here.place p size c.ahead.ensures (rw (c.in-Some.ensures p, c.in-Onward.is) refl)

pub returns-in-Cycled : goal.returns-in-Cycled
returns-in-Cycled c = λ p limit g code v here size. went_ahead code here.place p size c.ahead-in-Cycled.ensures (rw (c.in-Some.ensures p, c.in-Cycled.is) refl)

pub returns-in-Left : goal.returns-in-Left
returns-in-Left c = λ p limit g code v here size. went_ahead code here.place p size c.ahead-in-Left.ensures (rw (c.in-Some.ensures p, c.in-Left.is) refl)

pub returns-in-Returned : goal.returns-in-Returned
returns-in-Returned c = λ p limit g code v here size. moved_on p c.advance.ensures (rw (c.in-Some.ensures p, c.in-Returned.is) refl)
