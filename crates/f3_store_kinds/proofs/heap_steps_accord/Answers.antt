use Rattle.f3_store_kinds.proofs.Running.{heap_steps_accord}
use Rattle.f3_store_kinds.proofs.heap_steps_accord.Goals as goal

pub returns : goal.returns
returns c = heap_steps_accord
