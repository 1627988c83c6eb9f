use Rattle.std.proofs.Common.{refl, ap, ◌∙◌}
use Rattle.f3_meaning_whole.specs.Value as m
use Rattle.f3_meaning_whole.specs.Act.{at}
use Rattle.f3_meaning_whole.specs.Exec.{vacant}
use Rattle.f3_data.specs.Values.{value_of}
use Rattle.f3_data.specs.References.{reference_of}
use Rattle.f3_gen_values.specs.Emitted.{taken}
use Rattle.f3_cells.specs.Cells.{here_of}
use Rattle.f3_cells.specs.States.{setting}
use Rattle.f3_cells.proofs.Steps.{is_stuck}
use Rattle.f3_allocation_steps.proofs.Acting.{at_object, at_datum, claimed_then, set_as, moved_with}
use Rattle.f3_allocation_steps.proofs.allocating.new.Goals as goal

pub returns-in_default : goal.returns-in_default
returns-in_default c = λ place. is_stuck (c.in_default.ensures c.args.scene.now.program.now _)

pub returns-in_default-datum_at : goal.returns-in_default-datum_at
returns-in_default-datum_at c =
    let p = c.args.scene.now.program.now in
    λ place. is_stuck (at_object _ (c.in-Some.ensures p) ∙ c.in_default-datum_at.ensures p _)

pub returns : goal.returns
returns c =
    let p = c.args.scene.now.program.now in
    λ place. moved_with p _ c.advance.ensures (at_object _ (c.in-Some.ensures p) ∙ at_datum _ (c.in-Some-datum_at.ensures p)
    ∙ claimed_then (at place (here_of p c.args.state.now.here)) c.args.state.now.store _ _
    ∙ set_as (reference_of c.in-Some.object.now) (m.Allocated (vacant c.args.rank (m.spans_of (value_of c.in-Some-datum_at.value.now)) (taken (setting p) c.args.begin)))
    (value_of c.in_ok-new.new) (at place (here_of p c.args.state.now.here)) c.args.state.now.store c.set.new.store _
    (c.in_ok-new.ensures ∙ ap (λ (ss : _). m.Allocated (vacant c.args.rank ss (taken (setting p) c.args.begin))) c.spans_of.ensures) c.in_ok-set.ensures) refl
