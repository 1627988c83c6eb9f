use Rattle.std.proofs.Common.{◌≡◌, length}
use Rattle.f3_word_calls.proofs.Giving.{Clearing}
use Rattle.f3_word_calls.proofs.ends.clear.Given as goal

abbrev pub invariant-loop-cell : goal.invariant-loop-cell
invariant-loop-cell g l = record {
  clearing : Clearing (g.B.Blocks.blocks l.fn.heap) (g.B.Blocks.blocks l.heap) l.fn.state l.state;
  kept : g.B.Blocks.kept l.heap ≡ g.B.Blocks.kept l.fn.heap;
}

abbrev pub decreases-loop-cell : goal.decreases-loop-cell
decreases-loop-cell g l = length l.state.cells.items.items
