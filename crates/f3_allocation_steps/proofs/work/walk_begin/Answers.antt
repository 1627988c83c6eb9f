use Rattle.std.proofs.Common.{◌∷◌, ap, sym, ◌∙◌}
use Rattle.f3_meaning_whole.specs.Reference.{Reference, paths}
use Rattle.f3_code.specs.State as s
use Rattle.f3_code.specs.Machine.{goes}
use Rattle.f3_cells.specs.Cells.{cells_of}
use Rattle.f3_cells.specs.States.{state_of}
use Rattle.f3_cells.proofs.Steps.{is_stuck, went_on}
use Rattle.f3_allocation_steps.proofs.Acting.{at_object}
use Rattle.f3_allocation_steps.proofs.work.walk_begin.Goals as goal

pub returns-in_default : goal.returns-in_default
returns-in_default c = λ p limit g code v here. is_stuck (c.in_default.ensures p _)

pub returns : goal.returns
returns c = λ p limit g code v here. went_on code here.place p c.go_on_with.ensures (at_object _ (c.in-Some.ensures p)
    ∙ ap (λ (q : Reference). goes (state_of p c.args.state.now) (s.Elements (paths q) ∷ cells_of p c.args.state.now.stack.items)) (sym c.in_ok-whole.ensures))
