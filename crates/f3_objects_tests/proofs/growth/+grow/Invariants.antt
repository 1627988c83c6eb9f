use Rattle.std.proofs.Common.{◌+◌, ◌-◌, ◌*◌, map, drop}
use Rattle.f3_desc.specs.Shape.{row, shape_at, Times}
use Rattle.f3_desc.specs.Layout.{shapes, shape_in}
use Rattle.f3_objects.specs.Tree.{Tree, Repeats, Fits, IsBare}
use Rattle.f3_objects.specs.Holds.{Holds}
use Rattle.f3_objects_tests.proofs.Growing.{Growing}
use Rattle.f3_objects_tests.proofs.growth.+grow.Given as goal

-- a deeper call has a smaller piece
abbrev pub decreases-grow_piece : goal.decreases-grow_piece
decreases-grow_piece g l = 4 * l.piece + 3

abbrev pub decreases-grow_parts : goal.decreases-grow_parts
decreases-grow_parts g l = 4 * l.piece + 2

abbrev pub decreases-grow_elements : goal.decreases-grow_elements
decreases-grow_elements g l = 4 * l.of + 4

abbrev pub decreases-grow_allocatable : goal.decreases-grow_allocatable
decreases-grow_allocatable g l = 4 * l.of + 5

-- the elements so far have grown
abbrev pub invariant-grow_elements-loop-i : goal.invariant-grow_elements-loop-i
invariant-grow_elements-loop-i g l = (t : Tree) → Holds (g.B.Blocks.blocks l.initial.heap) l.block l.at (Times l.count (shape_in l.layout l.of)) t → IsBare t → Growing (g.B.Blocks.blocks l.initial.heap) (g.B.Blocks.blocks l.heap) l.block l.at l.place (Repeats (l.count - l._i) (Fits (shape_in l.layout l.of))) (Fits (Times l.count (shape_in l.layout l.of))) t

-- the parts so far have grown
abbrev pub invariant-grow_parts-loop-part : goal.invariant-grow_parts-loop-part
invariant-grow_parts-loop-part g l = (t : Tree) → Holds (g.B.Blocks.blocks l.initial.heap) l.block l.at (row (map (shape_at (shapes l.layout)) l.parts)) t → IsBare t → Growing (g.B.Blocks.blocks l.initial.heap) (g.B.Blocks.blocks l.heap) l.block l.at l.place (Fits (row (map (shape_at (shapes l.layout)) (drop l.part-index l.parts)))) (Fits (row (map (shape_at (shapes l.layout)) l.parts))) t
