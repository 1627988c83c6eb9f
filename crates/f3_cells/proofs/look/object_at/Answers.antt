use Rattle.std.proofs.Common.{ap}
use Rattle.f3_data.specs.References.{reference_of}
use Rattle.f3_code.specs.State as s
use Rattle.f3_code.specs.Machine.{on_object}
use Rattle.f3_cells.proofs.Below.{shows}
use Rattle.f3_cells.proofs.look.object_at.Goals as goal

pub returns-in-Some : goal.returns-in-Some
returns-in-Some c = shows on_object (λ x. s.Object (reference_of x.now)) c.object_in.result c.args.stack.now.items c.args.depth c.in-Some.cell.now c.in-Some.ensures c.object_in.ensures

pub returns-in-None : goal.returns-in-None
returns-in-None c = λ p f. ap (λ cs. on_object cs f) (c.in-None.ensures p)
