use Rattle.f3_sorts.proofs.Running.{heap_steps_fit}
use Rattle.f3_sorts.proofs.heap_steps_fit.Goals as goal

pub returns : goal.returns
returns c = heap_steps_fit
