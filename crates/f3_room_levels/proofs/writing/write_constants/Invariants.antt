use Rattle.std.proofs.Common.{◌≡◌, map, drop}
use Rattle.f3_room_levels.specs.Initial.{word_of}
use Rattle.f3_room_levels.proofs.Leaving.{Leaves}
use Rattle.f3_room_levels.proofs.writing.write_constants.Given as goal

abbrev pub invariant-loop-constant : goal.invariant-loop-constant
invariant-loop-constant g l = record {
  leaves : Leaves (g.B.Blocks.blocks l.initial.heap) (g.B.Blocks.blocks l.heap) l.block l.at l.place (map word_of (drop l.constant-index l.constants)) (map word_of l.constants);
  kept : g.B.Blocks.kept l.heap ≡ g.B.Blocks.kept l.initial.heap;
}
