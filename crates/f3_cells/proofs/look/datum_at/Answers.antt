use Rattle.std.proofs.Common.{ap}
use Rattle.f3_data.specs.Values.{value_of}
use Rattle.f3_code.specs.State as s
use Rattle.f3_code.specs.Machine.{on_datum}
use Rattle.f3_cells.proofs.Below.{shows}
use Rattle.f3_cells.proofs.look.datum_at.Goals as goal

pub returns-in-Some : goal.returns-in-Some
returns-in-Some c = shows on_datum (λ x. s.Datum (value_of x.now)) c.datum_in.result c.args.stack.now.items c.args.depth c.in-Some.cell.now c.in-Some.ensures c.datum_in.ensures

pub returns-in-None : goal.returns-in-None
returns-in-None c = λ p f. ap (λ cs. on_datum cs f) (c.in-None.ensures p)
