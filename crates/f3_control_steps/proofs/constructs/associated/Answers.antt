use Rattle.std.proofs.Common.{refl}
use Rattle.f3_cells.proofs.Steps.{is_stuck, went_on}
use Rattle.f3_control_steps.proofs.constructs.associated.Goals as goal

pub returns-in_default : goal.returns-in_default
returns-in_default c = λ p limit g code v here. is_stuck (c.in_default.ensures p _)

pub returns-in_default-level_at : goal.returns-in_default-level_at
returns-in_default-level_at c = λ p limit g code v here. rw (c.in-Some.ensures p) (is_stuck (c.in_default-level_at.ensures p _))

pub returns : goal.returns
returns c = λ p limit g code v here. went_on code here.place p c.go_on_with.ensures (rw (c.in-Some.ensures p, c.in-Some-level_at.ensures p, c.in_ok-left.ensures, c.deref.ensures.value) refl)
