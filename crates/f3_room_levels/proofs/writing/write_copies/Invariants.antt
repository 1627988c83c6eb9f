use Rattle.std.proofs.Common.{◌≡◌}
use Rattle.f3_room_levels.proofs.Leaving.{LeavesCopies}
use Rattle.f3_room_levels.proofs.writing.write_copies.Given as goal

abbrev pub invariant-loop-each : goal.invariant-loop-each
invariant-loop-each g l = record {
  copies : LeavesCopies (g.B.Blocks.blocks l.initial.heap) (g.B.Blocks.blocks l.heap) l.block l.at l.each l.count l.word;
  kept : g.B.Blocks.kept l.heap ≡ g.B.Blocks.kept l.initial.heap;
}
