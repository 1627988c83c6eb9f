use Rattle.std.proofs.Common.{◌≡◌, pos, replicate}
use Rattle.f3_objects.proofs.Writes.{Wrote}
use Rattle.f3_objects.proofs.zeros.clear.Given as goal

-- so many zeros are written
abbrev pub invariant-loop-i : goal.invariant-loop-i
invariant-loop-i g l = record {
  wrote : Wrote (g.B.Blocks.blocks l.initial.heap) (g.B.Blocks.blocks l.heap) l.block l.at (replicate l.i (pos 0));
  kept : g.B.Blocks.kept l.heap ≡ g.B.Blocks.kept l.initial.heap;
}
