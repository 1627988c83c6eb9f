-- No block is lost.
use Rattle.f3_heap_tests.proofs.Queue.{once-kept}
use Rattle.f3_heap_tests.proofs.calls.front_answer.Goals as goal

pub returns-in-Some : goal.returns-in-Some
returns-in-Some g c = once-kept (g.B.Blocks.blocks c.args.heap.now) (g.B.Blocks.blocks c.answer_of.new.heap) _ c.answer_of.ensures c.turn_front.ensures.queue
