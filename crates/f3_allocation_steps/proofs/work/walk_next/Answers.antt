use Rattle.std.proofs.Common.{◌∙◌, arith}
use Rattle.f3_meaning_whole.specs.Reference.{paths}
use Rattle.f3_data.specs.Stores.{path_of}
use Rattle.f3_data.specs.References.{reference_of}
use Rattle.f3_cells.specs.Cells.{cells_of}
use Rattle.f3_cells.specs.States.{state_of}
use Rattle.f3_cells.proofs.Steps.{is_stuck, went_ahead, went_on}
use Rattle.f3_allocation_steps.proofs.Acting.{at_object, at_elements}
use Rattle.f3_allocation_steps.proofs.Walking.{walked, walked_past}
use Rattle.f3_allocation_steps.proofs.work.walk_next.Goals as goal

pub returns-in_default : goal.returns-in_default
returns-in_default c = λ p limit g code v here size. is_stuck (c.in_default.ensures p _)

pub returns-in_default-object_at : goal.returns-in_default-object_at
returns-in_default-object_at c = λ p limit g code v here size. is_stuck (at_elements _ (c.in-Some.ensures p) ∙ c.in_default-object_at.ensures p _)

pub returns-then-k-count : goal.returns-then-k-count
returns-then-k-count c = λ p limit g code v here size. went_ahead code here.place p size c.ahead.ensures (at_elements _ (c.in-Some.ensures p) ∙ at_object _ (c.in-Some-object_at.ensures p)
    ∙ walked_past (cells_of p c.pop_elements.new.stack.items) (paths (reference_of c.in-Some.whole)) c.in-Some.k c.args.distance (state_of p c.args.state.now) (reference_of c.in-Some-object_at.object.now)
    (omega (arith, c.count.ensures, c.if-k-count.true)) (c.in-Some-object_at.ensures p))

pub returns : goal.returns
returns c = λ p limit g code v here size. went_on code here.place p c.go_on_with.ensures (at_elements _ (c.in-Some.ensures p) ∙ at_object _ (c.in-Some-object_at.ensures p)
    ∙ walked (cells_of p c.pop_elements.new.stack.items) (cells_of p c.push.new.stack.items) (paths (reference_of c.in-Some.whole)) c.in-Some.k (path_of c.in_ok-path.path) c.args.distance
    (state_of p c.args.state.now) (reference_of c.in-Some-object_at.object.now) (reference_of c.in_ok-element.element)
    c.in_ok-path.ensures c.in_ok-element.ensures (c.in-Some-object_at.ensures p) (c.in_ok-push.ensures p))
