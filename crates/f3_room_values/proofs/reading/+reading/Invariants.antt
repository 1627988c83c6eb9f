use Rattle.std.proofs.Common.{◌+◌, ◌*◌, length}
use Rattle.f3_meaning_whole.specs.Shape.{shape_in, shapes_of}
use Rattle.f3_data.specs.Values.{values_of}
use Rattle.f3_rooms.specs.Forms.{words_for}
use Rattle.f3_rooms.specs.Values.{object}
use Rattle.f3_rooms.specs.Sound.{IsObject}
use Rattle.f3_room_values.specs.Reads.{declared_each}
use Rattle.f3_room_values.proofs.Leaving.{LeavesFrom, LeavesEachFrom}
use Rattle.f3_room_values.proofs.reading.+reading.Given as goal

abbrev pub decreases-object : goal.decreases-object
decreases-object g l = length l.types.now * 6

abbrev pub decreases-elements : goal.decreases-elements
decreases-elements g l = length l.types.now * 6 + 1

abbrev pub decreases-arranged : goal.decreases-arranged
decreases-arranged g l = length l.types.now * 6 + 2

abbrev pub decreases-held : goal.decreases-held
decreases-held g l = length l.types.now * 6 + 3

abbrev pub decreases-declared_at : goal.decreases-declared_at
decreases-declared_at g l = length l.types.now * 6 + 4

abbrev pub decreases-components : goal.decreases-components
decreases-components g l = length l.types.now * 6 + 5

abbrev pub invariant-components-loop-component : goal.invariant-components-loop-component
invariant-components-loop-component g l = LeavesFrom (shapes_of l.types) (g.B.Blocks.blocks l.heap) (declared_each l.components) l.block l.first l.component-index l.at
    (values_of l.values.items)

abbrev pub invariant-elements-loop-each : goal.invariant-elements-loop-each
invariant-elements-loop-each g l = LeavesEachFrom l.count (words_for (shape_in (shapes_of l.types) l.of)) (IsObject (g.B.Blocks.blocks l.heap) (shape_in (shapes_of l.types) l.of))
    (object (g.B.Blocks.blocks l.heap) (shape_in (shapes_of l.types) l.of)) l.block l.first l._each l.at (values_of l.values.items)
