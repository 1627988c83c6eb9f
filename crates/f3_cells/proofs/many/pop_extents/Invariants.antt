use Rattle.f3_code.specs.Machine.{extent_of}
use Rattle.f3_cells.specs.Popped.{extent_in}
use Rattle.f3_cells.proofs.SoFar.{SoFar}
use Rattle.f3_cells.proofs.many.pop_extents.Given as goal

abbrev pub invariant-loop-i : goal.invariant-loop-i
invariant-loop-i l = SoFar extent_in extent_of l.count l._i l.initial.stack.items l.stack.items l.found.items
