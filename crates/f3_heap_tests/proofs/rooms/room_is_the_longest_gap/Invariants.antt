-- The queue holds live blocks, each once.
use Rattle.f3_heap_tests.specs.LiveOnce.{LiveOnce}
use Rattle.f3_heap_tests.proofs.rooms.room_is_the_longest_gap.Given as goal

abbrev pub invariant-loop : goal.invariant-loop
invariant-loop g l = LiveOnce l.heap.blocks l.queue.items
