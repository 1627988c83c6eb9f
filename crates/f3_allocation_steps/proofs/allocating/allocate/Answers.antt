use Rattle.std.proofs.Common.{◌∷◌, map, ap, subst, ◌∙◌}
use Rattle.f3_meaning_whole.specs.Act.{at}
use Rattle.f3_data.specs.References.{reference_of}
use Rattle.f3_code.specs.Exec.{allocate}
use Rattle.f3_gen_values.specs.Emitted.{taken}
use Rattle.f3_code.specs.State as s
use Rattle.f3_code.specs.Machine.{on, ends_so}
use Rattle.f3_cells.specs.Cells.{here_of, cells_of}
use Rattle.f3_cells.specs.States.{state_of, setting, code_of}
use Rattle.f3_cells.specs.Popped.{extent_in}
use Rattle.f3_cells.proofs.Steps.{is_stuck}
use Rattle.f3_allocation_steps.specs.Acts.{Performs}
use Rattle.f3_allocation_steps.proofs.Acting.{at_object, went_with, many_stops}
use Rattle.f3_allocation_steps.proofs.allocating.allocate.Goals as goal

pub returns-in-Err : goal.returns-in-Err
returns-in-Err c =
    let p = c.args.scene.now.program.now in
    λ place. many_stops (code_of c.args.scene.now) p (state_of p c.args.state.now) place c.args.dimensions c.in-Err.stop c.args.state.now.stack.items c.pop_extents.new.stack.items _ c.in-Err.ensures

pub returns-in_default : goal.returns-in_default
returns-in_default c =
    let p = c.args.scene.now.program.now in
    λ place. is_stuck (c.in-Ok.ensures p _ ∙ c.in_default.ensures p _)

pub returns : goal.returns
returns c =
    let p = c.args.scene.now.program.now in
    let st = c.args.state.now in
    let did : Performs (allocate c.args.rank (taken (setting p) c.args.begin) (reference_of c.in-Some.object) (map extent_in c.in-Ok.extents.items)) st.store c.in_ok-status.status c.allocate_object.new.store =
    subst (λ l. Performs (allocate c.args.rank (taken (setting p) c.args.begin) (reference_of c.in-Some.object) (map extent_in l)) st.store c.in_ok-status.status c.allocate_object.new.store)
    c.deref.ensures.value c.in_ok-status.ensures in
    λ place.
    let done = did (at place (here_of p st.here)) in
    went_with (code_of c.args.scene.now) place p done.0 c.go_on_with.ensures (c.in-Ok.ensures p _ ∙ at_object _ (c.in-Some.ensures p)
    ∙ ap (λ o. ends_so o.out o.end (λ status. on (state_of p st) (s.Status status ∷ cells_of p c.pop_object.new.stack.items))) done.1) done.2
