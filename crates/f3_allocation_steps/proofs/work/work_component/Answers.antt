use Rattle.std.proofs.Common.{◌∷◌, ap, sym, ◌∙◌}
use Rattle.f3_meaning_whole.specs.Reference.{Reference, Language}
use Rattle.f3_meaning_whole.specs.Act.{component}
use Rattle.f3_data.specs.References.{reference_of}
use Rattle.f3_code.specs.State as s
use Rattle.f3_code.specs.Machine.{on, performs}
use Rattle.f3_cells.specs.Cells.{cells_of}
use Rattle.f3_cells.specs.States.{state_of, world_of, setting, code_of}
use Rattle.f3_cells.proofs.Steps.{is_stuck, went_on}
use Rattle.f3_allocation_steps.proofs.Acting.{at_object, found}
use Rattle.f3_allocation_steps.proofs.work.work_component.Goals as goal

pub returns-in_default : goal.returns-in_default
returns-in_default c = λ place. is_stuck (c.in_default.ensures c.args.scene.now.program.now _)

pub returns : goal.returns
returns c =
    let p = c.args.scene.now.program.now in
    let st = c.args.state.now in
    λ place. went_on (code_of c.args.scene.now) place p c.go_on_with.ensures (at_object _ (c.in-Some.ensures p)
    ∙ ap (λ (q : Reference). performs (component (setting p) c.args.number Language q) (world_of st.store) (λ q. on (state_of p st) (s.Object q ∷ cells_of p st.stack.items))) (sym c.in_ok-whole.ensures)
    ∙ found (component (setting p) c.args.number Language (reference_of c.in_ok-whole.whole)) st.store (reference_of c.in_ok-part.part) (λ q. on (state_of p st) (s.Object q ∷ cells_of p st.stack.items)) (c.in_ok-part.ensures (setting p) (sym c.deref.ensures.value)))
