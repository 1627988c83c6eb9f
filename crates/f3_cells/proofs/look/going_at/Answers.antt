use Rattle.std.proofs.Common.{ap}
use Rattle.f3_code.specs.State as s
use Rattle.f3_code.specs.Machine.{on_going}
use Rattle.f3_cells.specs.Cells.{flow_of}
use Rattle.f3_cells.proofs.Below.{shows}
use Rattle.f3_cells.proofs.look.going_at.Goals as goal

pub returns-in-Some : goal.returns-in-Some
returns-in-Some c = shows on_going (λ x. s.Going (flow_of x)) c.going_in.result c.args.stack.now.items c.args.depth c.in-Some.cell.now c.in-Some.ensures c.going_in.ensures

pub returns-in-None : goal.returns-in-None
returns-in-None c = λ p f. ap (λ cs. on_going cs f) (c.in-None.ensures p)
