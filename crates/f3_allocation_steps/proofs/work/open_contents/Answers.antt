use Rattle.std.proofs.Common.{[], ◌∷◌, refl, ap, sym, ◌∙◌}
use Rattle.f3_meaning_whole.specs.Reference.{Reference}
use Rattle.f3_meaning_whole.specs.declared.run_error.RunError.TheVariants.{NotAllocated}
use Rattle.f3_meaning_whole.specs.Act.{at, contents}
use Rattle.f3_data.specs.References.{reference_of}
use Rattle.f3_code.specs.State as s
use Rattle.f3_code.specs.Machine.{on, performs}
use Rattle.f3_cells.specs.Cells.{here_of, cells_of}
use Rattle.f3_cells.specs.States.{state_of, world_of}
use Rattle.f3_cells.proofs.Steps.{is_stuck, went_on}
use Rattle.f3_allocation_steps.proofs.Acting.{at_object, shut, unshut, found, missed}
use Rattle.f3_allocation_steps.proofs.work.open_contents.Goals as goal

pub returns-in_default : goal.returns-in_default
returns-in_default c = λ place p limit g code v. is_stuck (c.in_default.ensures p _)

pub returns-then-is_pinned : goal.returns-then-is_pinned
returns-then-is_pinned c = λ place p limit g code v. (
  [],
  at_object _ (c.in-Some.ensures p)
      ∙ shut (reference_of c.in-Some.object.now) (at place (here_of p c.args.state.now.here)) _ _ (sym c.is_pinned.ensures ∙ c.if-is_pinned.true),
  refl,
)

pub returns-in-Some-found : goal.returns-in-Some-found
returns-in-Some-found c = λ place p limit g code v.
    let here = at place (here_of p c.args.state.now.here) in
    let st = c.args.state.now in
    went_on code place p c.go_on_with.ensures (at_object _ (c.in-Some.ensures p)
    ∙ unshut (reference_of c.in-Some.object.now) here _ _ (sym c.is_pinned.ensures ∙ c.if-is_pinned.false)
    ∙ ap (λ (q : Reference). performs (contents q here) (world_of st.store) (λ q. on (state_of p st) (s.Object q ∷ cells_of p st.stack.items))) (sym c.in_ok-whole.ensures)
    ∙ found (contents (reference_of c.in_ok-whole.whole) here) st.store (reference_of c.in-Some-found.held) (λ q. on (state_of p st) (s.Object q ∷ cells_of p st.stack.items)) (rw c.in-Some-found.is at (c.in_ok-found.ensures here)))

pub returns-in-None : goal.returns-in-None
returns-in-None c = λ place p limit g code v.
    let here = at place (here_of p c.args.state.now.here) in
    let st = c.args.state.now in (
      [],
      at_object _ (c.in-Some.ensures p)
          ∙ unshut (reference_of c.in-Some.object.now) here _ _ (sym c.is_pinned.ensures ∙ c.if-is_pinned.false)
          ∙ ap (λ (q : Reference). performs (contents q here) (world_of st.store) (λ q. on (state_of p st) (s.Object q ∷ cells_of p st.stack.items))) (sym c.in_ok-whole.ensures)
          ∙ missed (contents (reference_of c.in_ok-whole.whole) here) st.store NotAllocated place (λ q. on (state_of p st) (s.Object q ∷ cells_of p st.stack.items)) (rw c.in-None.is at (c.in_ok-found.ensures here)),
      refl,
    )
