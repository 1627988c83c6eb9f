use Rattle.std.proofs.Common.{[], map, refl, ◌∙◌}
use Rattle.f3_meaning_whole.specs.Act.{at}
use Rattle.f3_data.specs.References.{reference_of}
use Rattle.f3_cells.specs.Cells.{cells_of, here_of}
use Rattle.f3_cells.specs.States.{state_of, code_of}
use Rattle.f3_cells.proofs.Steps.{is_stuck}
use Rattle.std.proofs.Common.{◌∷◌, true}
use Rattle.f3_meaning_whole.specs.Ran.{Asked}
use Rattle.f3_cells.specs.Popped.{extent_in}
use Rattle.f3_requests.proofs.Requested.{allocate_goes, allocate_stops, went_with}
use Rattle.f3_requests.proofs.refusing.allocate.Goals as goal

pub returns-in-Err : goal.returns-in-Err
returns-in-Err c = λ rank x v place n h.
    allocate_stops (code_of x) x.program.now (state_of x.program.now c.args.state.now) place c.args.dimensions c.in-Err.stop c.args.state.now.stack.items
    c.pop_extents.new.stack.items _ c.in-Err.ensures

pub returns-in_default : goal.returns-in_default
returns-in_default c = λ rank x v place n h. is_stuck (c.in-Ok.ensures x.program.now _ ∙ c.in_default.ensures x.program.now _)

pub returns : goal.returns
returns c = λ rank x v place n h.
    let p = x.program.now in
    let st = c.args.state.now in
    went_with (code_of x) place p (Asked true ∷ []) c.go_on_with.ensures
    (allocate_goes rank c.args.dimensions n v (at place (here_of p st.here)) (state_of p st) (cells_of p st.stack.items) (map extent_in c.in-Ok.extents.items)
    (cells_of p c.pop_extents.new.stack.items) (cells_of p c.pop_object.new.stack.items) (reference_of c.in-Some.object) h (c.in-Ok.ensures p) (c.in-Some.ensures p)) refl
