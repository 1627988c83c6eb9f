use Rattle.std.proofs.Common.{◌∙◌}
use Rattle.f3_cells.specs.States.{state_of}
use Rattle.f3_cells.proofs.Steps.{is_stuck, moved_on, went_ahead}
use Rattle.f3_allocation_steps.proofs.Acting.{at_object, at_datum}
use Rattle.f3_allocation_steps.proofs.states.by_state.Goals as goal

pub returns-in_default : goal.returns-in_default
returns-in_default c = λ p limit g code v here size. is_stuck (c.in_default.ensures p _)

pub returns-in_default-datum_at : goal.returns-in_default-datum_at
returns-in_default-datum_at c = λ p limit g code v here size. is_stuck (at_object _ (c.in-Some.ensures p) ∙ c.in_default-datum_at.ensures p _)

pub returns-in-Some-distance_by : goal.returns-in-Some-distance_by
returns-in-Some-distance_by c = λ p limit g code v here size.
    went_ahead code here.place p size c.ahead.ensures
    (at_object _ (c.in-Some.ensures p) ∙ at_datum _ (c.in-Some-datum_at.ensures p) ∙ c.in-Some-distance_by.ensures (state_of p c.args.state.now))

pub returns-in-None : goal.returns-in-None
returns-in-None c = λ p limit g code v here size.
    moved_on p c.advance.ensures (at_object _ (c.in-Some.ensures p) ∙ at_datum _ (c.in-Some-datum_at.ensures p) ∙ c.in-None.ensures (state_of p c.args.state.now))
