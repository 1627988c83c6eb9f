use Rattle.f3_objects_tests.proofs.TwoLists.{are_ready}
use Rattle.f3_objects_tests.proofs.elements.two_lists_and_zeros.Goals as goal

pub returns : goal.returns
returns g c = are_ready (g.B.Blocks.blocks c.two_lists-numbers.new.heap) (g.B.Blocks.blocks c.block_with-zeros.new.heap) c.two_lists-numbers.result.0 c.two_lists-numbers.result.1 c.block_with-zeros.result c.two_lists-numbers.ensures c.block_with-zeros.ensures.fresh c.block_with-zeros.ensures.live c.block_with-zeros.ensures.words c.block_with-zeros.ensures.kept
