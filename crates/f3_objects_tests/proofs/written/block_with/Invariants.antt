use Rattle.f3_objects_tests.proofs.Filling.{Fills}
use Rattle.f3_objects_tests.proofs.written.block_with.Given as goal

-- the first so many words are written
abbrev pub invariant-loop-at : goal.invariant-loop-at
invariant-loop-at g l = Fills (g.B.Blocks.blocks l.fn.heap) (g.B.Blocks.blocks l.heap) l.block l.words l.at
