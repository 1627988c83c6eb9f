use Rattle.std.proofs.Common.{refl}
use Rattle.f3_cells.proofs.Steps.{is_stuck}
use Rattle.f3_value_steps.proofs.Ends.{finished}
use Rattle.f3_value_steps.proofs.results.result.Goals as goal

pub returns-in_default : goal.returns-in_default
returns-in_default c = λ p limit g code v here. is_stuck (c.in_default.ensures p _)

pub returns : goal.returns
returns c = λ p limit g code v here. finished code _ c.result_of.result _ c.finish.result here.place p
    (record c.args.state.now { stack = c.pop_datum.new.stack }) c.finish.new.state c.finish.ensures (c.result_of.ensures here)
    (rw (c.in-Some.ensures p) refl)
