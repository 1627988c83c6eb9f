use Rattle.std.proofs.Common.{◌≡◌, drop}
use Rattle.f3_room_places.specs.Places.{shapes}
use Rattle.f3_room_levels.proofs.Leaving.{LeavesVariables}
use Rattle.f3_room_levels.proofs.writing.write_initial.Given as goal

abbrev pub invariant-loop-variable : goal.invariant-loop-variable
invariant-loop-variable g l = record {
  variables : LeavesVariables (shapes l.types) (g.B.Blocks.blocks l.initial.heap) (g.B.Blocks.blocks l.heap) l.block 0 l.at (drop l.variable-index l.declared) l.declared;
  kept : g.B.Blocks.kept l.heap ≡ g.B.Blocks.kept l.initial.heap;
}
