use Rattle.f3_bounded_laws.proofs.Declarations.{written}
use Rattle.f3_bounded_laws.proofs.declarations_are_written.Goals as goal

pub returns : goal.returns
returns c = written
