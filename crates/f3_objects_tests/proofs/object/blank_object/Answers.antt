use Rattle.std.proofs.Common.{arith}
use Rattle.f3_objects_tests.proofs.Growing.{zeros_length}
use Rattle.f3_objects_tests.proofs.Beside.{new_kept}
use Rattle.f3_objects_tests.proofs.object.blank_object.Goals as goal

pub clear-requires-clause-live : goal.clear-requires-clause-live
clear-requires-clause-live g c = (zeros_length (g.B.Blocks.blocks c.args.heap.now) (g.B.Blocks.blocks c.take.new.self) c.in-Ok.block c.words.result c.in-Ok.ensures.taken).0

pub clear-requires-clause-within : goal.clear-requires-clause-within
clear-requires-clause-within g c =
    let l = (zeros_length (g.B.Blocks.blocks c.args.heap.now) (g.B.Blocks.blocks c.take.new.self) c.in-Ok.block c.words.result c.in-Ok.ensures.taken).1 in
    omega (arith, c.words.ensures)

pub returns-clause-kept : goal.returns-clause-kept
returns-clause-kept g c = new_kept (g.B.Blocks.blocks c.args.heap.now) (g.B.Blocks.blocks c.take.new.self) (g.B.Blocks.blocks c.clear.new.heap) c.in-Ok.block c.words.result _ c.in-Ok.ensures.fresh c.in-Ok.ensures.taken c.clear.ensures.zeros
