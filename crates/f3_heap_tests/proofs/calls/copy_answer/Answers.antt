-- No block is lost.
use Rattle.f3_heap_tests.proofs.Queue.{once-kept}
use Rattle.f3_heap_tests.proofs.calls.copy_answer.Goals as goal

pub returns : goal.returns
returns g c = once-kept (g.B.Blocks.blocks c.args.heap.now) (g.B.Blocks.blocks c.copy_words.new.heap) _ c.copy_words.ensures c.turn_front-2.ensures.queue
