use Rattle.std.proofs.Common.{refl, ◌∙◌}
use Rattle.f3_meaning_whole.specs.Act.{at}
use Rattle.f3_data.specs.Values.{value_of}
use Rattle.f3_data.specs.References.{reference_of}
use Rattle.f3_gen_values.specs.Emitted.{taken}
use Rattle.f3_cells.specs.Cells.{here_of}
use Rattle.f3_cells.specs.States.{setting}
use Rattle.f3_cells.proofs.Steps.{is_stuck}
use Rattle.f3_allocation_steps.proofs.Acting.{at_object, set_as, moved_with}
use Rattle.f3_allocation_steps.proofs.allocating.set.Goals as goal

pub returns-in_default : goal.returns-in_default
returns-in_default c = λ place. is_stuck (c.in_default.ensures c.args.scene.now.program.now _)

pub returns : goal.returns
returns c =
    let p = c.args.scene.now.program.now in
    λ place. moved_with p _ c.advance.ensures (at_object _ (c.in-Some.ensures p)
    ∙ set_as (reference_of c.in-Some.object.now) (taken (setting p) c.args.begin) (value_of c.in_ok-value.value) (at place (here_of p c.args.state.now.here))
    c.args.state.now.store c.set.new.store _ c.in_ok-value.ensures c.in_ok-set.ensures) refl
