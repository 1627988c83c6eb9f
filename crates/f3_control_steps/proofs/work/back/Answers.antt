use Rattle.std.proofs.Common.{refl, []}
use Rattle.f3_cells.proofs.Steps.{is_stuck}
use Rattle.f3_control_steps.proofs.work.back.Goals as goal

pub returns-in_default : goal.returns-in_default
returns-in_default c = λ p limit g code v here. is_stuck (c.in_default.ensures p _)

pub returns-in_default-pop_to : goal.returns-in_default-pop_to
returns-in_default-pop_to c = λ p limit g code v here. rw (c.in-Some.ensures p) (is_stuck (c.in_default-pop_to.ensures p _))

pub returns : goal.returns
returns c = λ p limit g code v here. rw (c.in-Some.ensures p, c.in-Some-pop_to.ensures p, c.in_ok-push.ensures p) ([], refl, refl)
