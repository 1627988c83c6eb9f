use Rattle.std.proofs.Common.{refl}
use Rattle.f3_cells.proofs.Steps.{is_stuck}
use Rattle.f3_value_steps.proofs.Ends.{finished}
use Rattle.f3_value_steps.proofs.operations.binary.Goals as goal

pub returns-in_default : goal.returns-in_default
returns-in_default c = λ p limit g code v here. is_stuck (c.in_default.ensures p _)

pub returns-in_default-pop_datum : goal.returns-in_default-pop_datum
returns-in_default-pop_datum c = λ p limit g code v here. rw (c.in-Some.ensures p) (is_stuck (c.in_default-pop_datum.ensures p _))

pub returns : goal.returns
returns c = λ p limit g code v here. finished code _ c.binary.result _ c.finish.result here.place p
    (record c.args.state.now { stack = c.pop_datum-2.new.stack }) c.finish.new.state c.finish.ensures
    (c.binary.ensures here.place) (rw (c.in-Some.ensures p, c.in-Some-pop_datum.ensures p) refl)
