use Rattle.std.proofs.Common.{refl}
use Rattle.f3_cells.proofs.Steps.{is_stuck, went_on}
use Rattle.f3_control_steps.proofs.jumps.swap.Goals as goal

pub returns-in_default : goal.returns-in_default
returns-in_default c = λ p limit g code v here. is_stuck (c.in_default.ensures p _)

pub returns-in_default-pop_any : goal.returns-in_default-pop_any
returns-in_default-pop_any c = λ p limit g code v here. rw (c.in-Some.ensures p) (is_stuck (c.in_default-pop_any.ensures p _))

pub returns : goal.returns
returns c = λ p limit g code v here. went_on code here.place p c.go_on_with.ensures (rw (c.in-Some.ensures p, c.in-Some-pop_any.ensures p, c.in_ok-push.ensures p) refl)
