use Rattle.std.proofs.Common.{refl, ◌∙◌}
use Rattle.f3_cells.proofs.Steps.{is_stuck, went_on}
use Rattle.f3_allocation_steps.proofs.Acting.{at_object}
use Rattle.f3_allocation_steps.proofs.states.bounds_of_variable.Goals as goal

pub returns-in_default : goal.returns-in_default
returns-in_default c = λ p limit g code v here. is_stuck (c.in_default.ensures p _)

pub returns : goal.returns
returns c = λ p limit g code v here. went_on code here.place p c.go_on_with.ensures (at_object _ (c.in-Some.ensures p) ∙ rw c.in_ok-spans.ensures refl)
