use Rattle.std.proofs.Common.{ap}
use Rattle.f3_data.specs.References.{references_of}
use Rattle.f3_code.specs.State as s
use Rattle.f3_code.specs.Machine.{on_level}
use Rattle.f3_cells.proofs.Below.{shows_pair}
use Rattle.f3_cells.proofs.look.level_at.Goals as goal

pub returns-in-Some : goal.returns-in-Some
returns-in-Some c = shows_pair on_level (λ x. s.Level (x.0) (references_of (x.1).now.items)) c.level_in.result c.args.stack.now.items c.args.depth c.in-Some.cell.now c.in-Some.ensures c.level_in.ensures

pub returns-in-None : goal.returns-in-None
returns-in-None c = λ p f. ap (λ cs. on_level cs f) (c.in-None.ensures p)
