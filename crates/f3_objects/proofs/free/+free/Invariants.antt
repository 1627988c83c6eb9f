use Rattle.std.proofs.Common.{◌≡◌, ◌+◌, ◌-◌, ◌*◌, map, drop}
use Rattle.f3_desc.specs.Shape.{row, shape_at, Times}
use Rattle.f3_desc.specs.Layout.{shapes, shape_in}
use Rattle.f3_objects.specs.Tree.{Tree, Repeats, Fits}
use Rattle.f3_objects.specs.Holds.{Holds}
use Rattle.f3_objects.proofs.Freeing.{Freed}
use Rattle.f3_objects.proofs.free.+free.Given as goal

-- a deeper call has a smaller piece
abbrev pub decreases-free_piece : goal.decreases-free_piece
decreases-free_piece g l = 4 * l.piece + 3

abbrev pub decreases-free_parts : goal.decreases-free_parts
decreases-free_parts g l = 4 * l.piece + 2

abbrev pub decreases-free_repeats : goal.decreases-free_repeats
decreases-free_repeats g l = 4 * l.of + 4

abbrev pub decreases-free_inner : goal.decreases-free_inner
decreases-free_inner g l = 4 * l.of + 5

abbrev pub decreases-free_allocatable : goal.decreases-free_allocatable
decreases-free_allocatable g l = 4 * l.of + 6

-- the elements so far are freed, and the others stand
abbrev pub invariant-free_repeats-loop-i : goal.invariant-free_repeats-loop-i
invariant-free_repeats-loop-i g l = record {
  freed : (t : Tree) → Holds (g.B.Blocks.blocks l.initial.heap) l.block l.at (Times l.count (shape_in l.layout l.of)) t → Freed (g.B.Blocks.blocks l.initial.heap) (g.B.Blocks.blocks l.heap) l.block l.at l.place (Repeats (l.count - l._i) (Fits (shape_in l.layout l.of))) t;
  kept : g.B.Blocks.kept l.heap ≡ g.B.Blocks.kept l.initial.heap;
}

-- the parts so far are freed, and the others stand
abbrev pub invariant-free_parts-loop-part : goal.invariant-free_parts-loop-part
invariant-free_parts-loop-part g l = record {
  freed : (t : Tree) → Holds (g.B.Blocks.blocks l.initial.heap) l.block l.at (row (map (shape_at (shapes l.layout)) l.parts)) t → Freed (g.B.Blocks.blocks l.initial.heap) (g.B.Blocks.blocks l.heap) l.block l.at l.place (Fits (row (map (shape_at (shapes l.layout)) (drop l.part-index l.parts)))) t;
  kept : g.B.Blocks.kept l.heap ≡ g.B.Blocks.kept l.initial.heap;
}
