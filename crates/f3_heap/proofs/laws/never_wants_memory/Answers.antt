use Rattle.f3_heap_laws.proofs.Refusals.{raw_no_memory}
use Rattle.f3_heap.proofs.laws.never_wants_memory.Goals as goal

pub returns : goal.returns
returns c = raw_no_memory
