-- The queue holds live blocks, each once.
use Rattle.f3_heap_tests.specs.LiveOnce.{LiveOnce}
use Rattle.f3_heap_speed.proofs.load.exchange.Given as goal

abbrev pub invariant-loop-taken : goal.invariant-loop-taken
invariant-loop-taken g l = LiveOnce (g.B.Blocks.blocks l.heap) l.queue.items
