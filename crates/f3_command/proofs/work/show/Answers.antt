use Rattle.f3_command.proofs.Parts.{on_err, faulted_on}
use Rattle.f3_command.proofs.work.show.Goals as goal

pub returns-in-Ok-clause-front : goal.returns-in-Ok-clause-front
returns-in-Ok-clause-front g c = let w = rw c.as_bytes.ensures.value at c.in-Ok.ensures.all in on_err _ (faulted_on w) c.flush.ensures.refused
