use Rattle.std.proofs.Common.{ap}
use Rattle.f3_unit_bodies.specs.Bodies.{anywhere}
use Rattle.f3_unit_bodies.proofs.Standing.{on_ok}
use Rattle.f3_unit_bodies.proofs.bodies.body.Goals as goal

pub returns-clause-site : goal.returns-clause-site
returns-clause-site c = on_ok c.block.result (ap anywhere) c.block.ensures.site
