use Rattle.f3_heights.proofs.OnHeap.{heap_steps_fit}
use Rattle.f3_heights.proofs.heap_steps_fit.Goals as goal

pub returns : goal.returns
returns c = heap_steps_fit
