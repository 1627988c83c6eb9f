use Rattle.std.proofs.Common.{◌≡◌, drop}
use Rattle.f3_objects.specs.Tree.{Tree}
use Rattle.f3_objects.specs.Holds.{Holds}
use Rattle.f3_room_places.specs.Places.{shapes}
use Rattle.f3_room_levels.specs.Levels.{room_layout}
use Rattle.f3_room_levels.proofs.Returning.{FreedFrom}
use Rattle.f3_room_levels.proofs.giving.free_variables.Given as goal

-- the variables so far hold nothing, and the others stand
abbrev pub invariant-loop-variable : goal.invariant-loop-variable
invariant-loop-variable g l = record {
  freed : (t : Tree) → Holds (g.B.Blocks.blocks l.initial.heap) l.block 0 (room_layout (shapes l.types) l.declared) t
      → FreedFrom (shapes l.types) (g.B.Blocks.blocks l.initial.heap) (g.B.Blocks.blocks l.heap) l.block l.at t (drop l.variable-index l.declared);
  kept : g.B.Blocks.kept l.heap ≡ g.B.Blocks.kept l.initial.heap;
}
