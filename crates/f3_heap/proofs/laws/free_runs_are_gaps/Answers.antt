use Rattle.std.proofs.Common.{sym}
use Rattle.f3_heap_laws.proofs.HeapLaws.{heap-gaps}
use Rattle.f3_heap.proofs.laws.free_runs_are_gaps.Goals as goal

pub returns : goal.returns
returns c = λ ws room size first end used h. sym (heap-gaps ws room size first end used 0 h)
