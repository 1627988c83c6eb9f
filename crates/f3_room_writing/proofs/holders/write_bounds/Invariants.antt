use Rattle.f3_room_writing.proofs.Bounding.{BoundsWritten}
use Rattle.f3_room_writing.proofs.holders.write_bounds.Given as goal

-- so many dimensions are written
abbrev pub invariant-loop-span : goal.invariant-loop-span
invariant-loop-span g l = BoundsWritten (g.B.Blocks.blocks l.initial.heap) (g.B.Blocks.blocks l.heap) l.block l.at l.place l.span-index l.spans
