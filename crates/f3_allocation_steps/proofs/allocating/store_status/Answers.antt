use Rattle.std.proofs.Common.{pos, refl, ◌∙◌}
use Rattle.f3_meaning_whole.specs.Value as m
use Rattle.f3_meaning_whole.specs.Exec.{status_number}
use Rattle.f3_data.specs.Values.{value_of}
use Rattle.f3_data.specs.References.{reference_of}
use Rattle.f3_cells.proofs.Steps.{is_stuck}
use Rattle.f3_allocation_steps.proofs.Acting.{at_object, at_status, set_as, moved_with}
use Rattle.f3_allocation_steps.proofs.allocating.store_status.Goals as goal

pub returns-in_default : goal.returns-in_default
returns-in_default c = λ p limit g code v here. is_stuck (c.in_default.ensures p _)

pub returns-in_default-pop_status : goal.returns-in_default-pop_status
returns-in_default-pop_status c = λ p limit g code v here. is_stuck (at_object _ (c.in-Some.ensures p) ∙ c.in_default-pop_status.ensures p _)

pub returns : goal.returns
returns c = λ p limit g code v here. moved_with p _ c.advance.ensures (at_object _ (c.in-Some.ensures p) ∙ at_status _ (c.in-Some-pop_status.ensures p)
    ∙ set_as (reference_of c.in-Some.object) (m.Number (pos (status_number c.in-Some-pop_status.status))) (value_of c.number_of.result) here
    c.args.state.now.store c.set.new.store _ c.number_of.ensures c.in_ok-set.ensures) refl
