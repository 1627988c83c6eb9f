use Rattle.std.proofs.Common.{◌≡◌, length}
use Rattle.f3_word_calls.proofs.Giving.{Giving}
use Rattle.f3_word_calls.proofs.ends.give_blocks.Given as goal

abbrev pub invariant-loop-blocks : goal.invariant-loop-blocks
invariant-loop-blocks g l = record {
  giving : Giving (g.B.Blocks.blocks l.fn.heap) (g.B.Blocks.blocks l.heap) l.fn.blocks.items.items l.blocks.items.items l.fn.count;
  room : l.blocks.room ≡ l.fn.blocks.room;
  kept : g.B.Blocks.kept l.heap ≡ g.B.Blocks.kept l.fn.heap;
}

abbrev pub decreases-loop-blocks : goal.decreases-loop-blocks
decreases-loop-blocks g l = length l.blocks.items.items
