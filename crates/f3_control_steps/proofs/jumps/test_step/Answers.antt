use Rattle.std.proofs.Common.{refl, sym, [], ◌∙◌}
use Rattle.f3_cells.proofs.Steps.{is_stuck, moved_on}
use Rattle.f3_control_steps.proofs.Parts.{failed, given}
use Rattle.f3_control_steps.proofs.jumps.test_step.Goals as goal

pub returns-in_default : goal.returns-in_default
returns-in_default c = λ p limit g code v here. is_stuck (c.in_default.ensures p _)

pub returns-then-is_zero : goal.returns-then-is_zero
returns-then-is_zero c = λ p limit g code v here. rw (c.in-Some.ensures p, sym c.is_zero.ensures ∙ c.if-is_zero.true) ([], failed _ _ _ _, refl)

pub returns : goal.returns
returns c = λ p limit g code v here. moved_on p c.advance.ensures (rw (c.in-Some.ensures p, sym c.is_zero.ensures ∙ c.if-is_zero.false) (given _ _ _))
