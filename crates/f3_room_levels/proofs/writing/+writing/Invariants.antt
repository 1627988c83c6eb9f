use Rattle.std.proofs.Common.{◌≡◌, ◌+◌, ◌*◌, length, drop}
use Rattle.f3_meaning_whole.specs.Shape.{shape_in}
use Rattle.f3_room_places.specs.Places.{shapes}
use Rattle.f3_room_levels.specs.Initial.{declared_each, object_words}
use Rattle.f3_room_levels.proofs.Leaving.{LeavesVariables, LeavesElements}
use Rattle.f3_room_levels.proofs.writing.+writing.Given as goal

abbrev pub decreases-write_object : goal.decreases-write_object
decreases-write_object g l = length l.types.derived.now * 6

abbrev pub decreases-write_elements : goal.decreases-write_elements
decreases-write_elements g l = length l.types.derived.now * 6 + 1

abbrev pub decreases-write_default : goal.decreases-write_default
decreases-write_default g l = length l.types.derived.now * 6 + 2

abbrev pub decreases-write_declared : goal.decreases-write_declared
decreases-write_declared g l = length l.types.derived.now * 6 + 3

abbrev pub decreases-write_components : goal.decreases-write_components
decreases-write_components g l = length l.types.derived.now * 6 + 4

abbrev pub invariant-write_components-loop-component : goal.invariant-write_components-loop-component
invariant-write_components-loop-component g l = record {
  variables : LeavesVariables (shapes l.types) (g.B.Blocks.blocks l.initial.heap) (g.B.Blocks.blocks l.heap) l.block l.first l.at (drop l.component-index (declared_each l.components))
      (declared_each l.components);
  kept : g.B.Blocks.kept l.heap ≡ g.B.Blocks.kept l.initial.heap;
}

abbrev pub invariant-write_elements-loop-each : goal.invariant-write_elements-loop-each
invariant-write_elements-loop-each g l = record {
  elements : LeavesElements (g.B.Blocks.blocks l.initial.heap) (g.B.Blocks.blocks l.heap) l.block l.first l.at l._each l.count (object_words (shape_in (shapes l.types) l.of));
  kept : g.B.Blocks.kept l.heap ≡ g.B.Blocks.kept l.initial.heap;
}
