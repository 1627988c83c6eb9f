use Rattle.std.proofs.Common.{refl, sym, ◌∙◌}
use Rattle.f3_cells.proofs.Steps.{is_stuck, moved_on, went_ahead}
use Rattle.f3_control_steps.proofs.work.skip_unless_rank.Goals as goal

pub returns-in_default : goal.returns-in_default
returns-in_default c = λ p limit g code v here size. is_stuck (c.in_default.ensures p _)

pub returns-then-has_rank : goal.returns-then-has_rank
returns-then-has_rank c = λ p limit g code v here size. moved_on p c.advance.ensures (rw (c.in-Some.ensures p, sym c.has_rank.ensures ∙ c.if-has_rank.true) refl)

pub returns-else-has_rank : goal.returns-else-has_rank
returns-else-has_rank c = λ p limit g code v here size. went_ahead code here.place p size c.ahead.ensures (rw (c.in-Some.ensures p, sym c.has_rank.ensures ∙ c.if-has_rank.false) refl)
