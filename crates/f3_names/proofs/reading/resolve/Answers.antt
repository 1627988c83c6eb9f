use Rattle.f3_names.specs.Texts.{lowered}
use Rattle.f3_names.proofs.Resolving.{resolved}
use Rattle.f3_names.proofs.reading.resolve.Goals as goal

pub returns-in-Some : goal.returns-in-Some
returns-in-Some c = λ t are. rw c.lookup.ensures (resolved t c.args.names.now c.args.scope.number c.in-Some.symbol (lowered c.args.name.now) c.symbol_of.result are c.in-Some.is c.symbol_of.ensures)
