use Rattle.std.proofs.Common.{◌≡◌}
use Rattle.f3_room_changes.proofs.Bounding.{Writes}
use Rattle.f3_room_changes.proofs.bounds.write_bounds.Given as goal

-- so many dimensions are written
abbrev pub invariant-loop-span : goal.invariant-loop-span
invariant-loop-span g l = record {
  writes : Writes (g.B.Blocks.blocks l.initial.heap) (g.B.Blocks.blocks l.heap) l.block l.at l.place l.span-index l.spans;
  kept : g.B.Blocks.kept l.heap ≡ g.B.Blocks.kept l.initial.heap;
}
