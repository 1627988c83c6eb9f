use Rattle.std.proofs.Common.{◌≡◌, take, drop}
use Rattle.f3_live_blocks.specs.Blocks.{words_of}
use Rattle.f3_objects.proofs.Writes.{Wrote}
use Rattle.f3_objects.proofs.shift.move_tree.Given as goal

-- so many words of the first are written into the second
abbrev pub invariant-loop-i : goal.invariant-loop-i
invariant-loop-i g l = record {
  wrote : Wrote (g.B.Blocks.blocks l.initial.heap) (g.B.Blocks.blocks l.heap) l.to l.to_at (take l.i (drop l.from_at (words_of (g.B.Blocks.blocks l.initial.heap) l.from)));
  kept : g.B.Blocks.kept l.heap ≡ g.B.Blocks.kept l.initial.heap;
}
