use Rattle.std.proofs.Common.{◌+◌, ◌*◌, length}
use Rattle.f3_meaning_whole.specs.Shape.{shape_in, shapes_of}
use Rattle.f3_data.specs.Values.{values_of}
use Rattle.f3_room_values.specs.Reads.{declared_each}
use Rattle.f3_room_writing.proofs.Leaving.{Leaves, LeavesEach}
use Rattle.f3_room_writing.proofs.writing.+writing.Given as goal

abbrev pub decreases-write_object : goal.decreases-write_object
decreases-write_object g l = length l.types.now * 6

abbrev pub decreases-write_elements : goal.decreases-write_elements
decreases-write_elements g l = length l.types.now * 6 + 1

abbrev pub decreases-write_laid : goal.decreases-write_laid
decreases-write_laid g l = length l.types.now * 6 + 2

abbrev pub decreases-write_held : goal.decreases-write_held
decreases-write_held g l = length l.types.now * 6 + 3

abbrev pub decreases-write_variable : goal.decreases-write_variable
decreases-write_variable g l = length l.types.now * 6 + 4

abbrev pub decreases-write_components : goal.decreases-write_components
decreases-write_components g l = length l.types.now * 6 + 5

abbrev pub invariant-write_components-loop-number : goal.invariant-write_components-loop-number
invariant-write_components-loop-number g l = Leaves (g.B.Blocks.blocks l.initial.heap) (g.B.Blocks.blocks l.heap) (shapes_of l.types) (declared_each l.components) l.block l.first l.number l.at
    (values_of l.values)

abbrev pub invariant-write_elements-loop-value : goal.invariant-write_elements-loop-value
invariant-write_elements-loop-value g l = LeavesEach (g.B.Blocks.blocks l.initial.heap) (g.B.Blocks.blocks l.heap) (shape_in (shapes_of l.types) l.of) l.block l.first l.value-index l.at
    (values_of l.values)
