use Rattle.std.proofs.Common.{refl, ◌∙◌}
use Rattle.f3_data.specs.References.{reference_of}
use Rattle.f3_cells.proofs.Steps.{is_stuck}
use Rattle.f3_allocation_steps.proofs.Acting.{at_object, clear_then, moved_with}
use Rattle.f3_allocation_steps.proofs.work.clear.Goals as goal

pub returns-in_default : goal.returns-in_default
returns-in_default c = λ p limit g code v here. is_stuck (c.in_default.ensures p _)

pub returns : goal.returns
returns c = λ p limit g code v here. moved_with p _ c.advance.ensures
    (at_object _ (c.in-Some.ensures p) ∙ clear_then (reference_of c.in-Some.object.now) here c.args.state.now.store c.clear.new.store _ c.in_ok-clear.ensures) refl
