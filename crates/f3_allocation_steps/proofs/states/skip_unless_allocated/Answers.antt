use Rattle.std.proofs.Common.{refl, sym, ◌∙◌}
use Rattle.f3_cells.proofs.Steps.{is_stuck, moved_on, went_ahead}
use Rattle.f3_allocation_steps.proofs.Acting.{at_object}
use Rattle.f3_allocation_steps.proofs.states.skip_unless_allocated.Goals as goal

pub returns-in_default : goal.returns-in_default
returns-in_default c = λ p limit g code v here size. is_stuck (c.in_default.ensures p _)

pub returns-then-is_allocated_at : goal.returns-then-is_allocated_at
returns-then-is_allocated_at c = λ p limit g code v here size.
    moved_on p c.advance.ensures (at_object _ (c.in-Some.ensures p) ∙ rw (sym c.is_allocated_at.ensures ∙ c.if-is_allocated_at.true) refl)

pub returns-else-is_allocated_at : goal.returns-else-is_allocated_at
returns-else-is_allocated_at c = λ p limit g code v here size.
    went_ahead code here.place p size c.ahead.ensures (at_object _ (c.in-Some.ensures p) ∙ rw (sym c.is_allocated_at.ensures ∙ c.if-is_allocated_at.false) refl)
