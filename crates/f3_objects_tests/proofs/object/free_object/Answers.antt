use Rattle.std.proofs.Common.{◌∙◌, is_ok}
use Rattle.f3_objects_tests.proofs.Beside.{frees_elsewhere, gives_elsewhere}
use Rattle.f3_objects_tests.proofs.object.free_object.Goals as goal

pub returns-then-is_ok : goal.returns-then-is_ok
returns-then-is_ok g c = λ t h q ne z.
    gives_elsewhere (g.B.Blocks.blocks c.free_tree.new.heap) (g.B.Blocks.blocks c.give.new.self) c.args.block c.give.result c.give.ensures.given c.give.ensures.refused q ne
    ∙ frees_elsewhere (g.B.Blocks.blocks c.args.heap.now) (g.B.Blocks.blocks c.free_tree.new.heap) c.args.block 0 t (is_ok c.free_tree.result) (c.free_tree.ensures.freed t h) q ne z

pub returns-else-is_ok : goal.returns-else-is_ok
returns-else-is_ok g c = λ t h q ne z.
    frees_elsewhere (g.B.Blocks.blocks c.args.heap.now) (g.B.Blocks.blocks c.free_tree.new.heap) c.args.block 0 t (is_ok c.free_tree.result) (c.free_tree.ensures.freed t h) q ne z
