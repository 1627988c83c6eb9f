use Rattle.std.proofs.Common.{◌∷◌, ap, sym, ◌∙◌}
use Rattle.std.specs.Prelude.{Some}
use Rattle.f3_code.specs.State as s
use Rattle.f3_code.specs.Machine.{skips}
use Rattle.f3_cells.specs.States.{state_of}
use Rattle.f3_cells.proofs.Steps.{is_stuck, moved_on, went_ahead_with}
use Rattle.f3_allocation_steps.proofs.Acting.{at_object, hindered, unhindered}
use Rattle.f3_allocation_steps.proofs.states.test_free.Goals as goal

pub returns-in_default : goal.returns-in_default
returns-in_default c = λ p limit g code v place size. is_stuck (c.in_default.ensures p _)

pub returns-in-Some-hindrance : goal.returns-in-Some-hindrance
returns-in-Some-hindrance c = λ p limit g code v place size. went_ahead_with code place p size c.ahead_with.ensures
    (at_object _ (c.in-Some.ensures p) ∙ hindered _ _ _ _ _ _ c.in-Some-hindrance.ensures
    ∙ ap (λ st. skips (state_of p c.args.state.now) c.args.distance (s.Status (Some c.in-Some-hindrance.error) ∷ st)) (sym (c.drop_cells.ensures p)))

pub returns-in-None : goal.returns-in-None
returns-in-None c = λ p limit g code v place size. moved_on p c.advance.ensures (at_object _ (c.in-Some.ensures p) ∙ unhindered _ _ _ _ _ c.in-None.ensures)
