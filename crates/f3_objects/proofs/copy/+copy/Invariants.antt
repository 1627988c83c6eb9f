use Rattle.std.proofs.Common.{◌+◌, ◌-◌, ◌*◌, map, drop}
use Rattle.f3_desc.specs.Shape.{row, shape_at, Times}
use Rattle.f3_desc.specs.Layout.{shapes, shape_in}
use Rattle.f3_objects.specs.Tree.{Tree, Repeats, Fits}
use Rattle.f3_heap_laws.specs.Answers.{Took}
use Rattle.f3_objects.specs.Copies.{Ready}
use Rattle.f3_objects.proofs.Copying.{Copying}
use Rattle.f3_objects.proofs.copy.+copy.Given as goal

-- a deeper call has a smaller piece
abbrev pub decreases-copy_piece : goal.decreases-copy_piece
decreases-copy_piece g l = 4 * l.piece + 3

abbrev pub decreases-copy_parts : goal.decreases-copy_parts
decreases-copy_parts g l = 4 * l.piece + 2

abbrev pub decreases-copy_repeats : goal.decreases-copy_repeats
decreases-copy_repeats g l = 4 * l.of + 4

abbrev pub decreases-copy_inner : goal.decreases-copy_inner
decreases-copy_inner g l = 4 * l.of + 5

abbrev pub decreases-copy_allocatable : goal.decreases-copy_allocatable
decreases-copy_allocatable g l = 4 * l.of + 6

-- the elements so far are copied
abbrev pub invariant-copy_repeats-loop-i : goal.invariant-copy_repeats-loop-i
invariant-copy_repeats-loop-i g l = record {
  copied : (t u : Tree) → Ready (g.B.Blocks.blocks l.initial.heap) l.from l.from_at l.to l.to_at (Times l.count (shape_in l.layout l.of)) t u → Copying (g.B.Blocks.blocks l.initial.heap) (g.B.Blocks.blocks l.heap) l.from_at l.from_place l.to l.to_at l.to_place (Repeats (l.count - l._i) (Fits (shape_in l.layout l.of))) (Fits (Times l.count (shape_in l.layout l.of))) t u (Took g.B.Blocks.allows g.B.Blocks.spent (g.B.Blocks.kept l.initial.heap) (g.B.Blocks.kept l.heap) (g.B.Blocks.blocks l.initial.heap) (g.B.Blocks.blocks l.heap));
}

-- the parts so far are copied
abbrev pub invariant-copy_parts-loop-part : goal.invariant-copy_parts-loop-part
invariant-copy_parts-loop-part g l = record {
  copied : (t u : Tree) → Ready (g.B.Blocks.blocks l.initial.heap) l.from l.from_at l.to l.to_at (row (map (shape_at (shapes l.layout)) l.parts)) t u → Copying (g.B.Blocks.blocks l.initial.heap) (g.B.Blocks.blocks l.heap) l.from_at l.from_place l.to l.to_at l.to_place (Fits (row (map (shape_at (shapes l.layout)) (drop l.part-index l.parts)))) (Fits (row (map (shape_at (shapes l.layout)) l.parts))) t u (Took g.B.Blocks.allows g.B.Blocks.spent (g.B.Blocks.kept l.initial.heap) (g.B.Blocks.kept l.heap) (g.B.Blocks.blocks l.initial.heap) (g.B.Blocks.blocks l.heap));
}
