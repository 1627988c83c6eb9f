-- The queue holds live blocks, each once.
use Rattle.f3_heap_tests.specs.LiveOnce.{LiveOnce}
use Rattle.f3_heap_tests.proofs.heap.follow.Given as goal

abbrev pub invariant-loop-line : goal.invariant-loop-line
invariant-loop-line g l = LiveOnce (g.B.Blocks.blocks l.heap) l.queue.items
