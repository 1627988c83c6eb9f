use Rattle.f3_there_laws.proofs.Running.{plain_parts_are_there}
use Rattle.f3_there_laws.proofs.plain_parts_are_there.Goals as goal

pub returns : goal.returns
returns c = plain_parts_are_there
