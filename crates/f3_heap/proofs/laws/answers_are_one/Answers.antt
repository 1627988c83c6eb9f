use Rattle.f3_heap_laws.proofs.Refusals.{raw_takes}
use Rattle.f3_heap.proofs.laws.answers_are_one.Goals as goal

pub returns : goal.returns
returns c = raw_takes
