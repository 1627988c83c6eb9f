use Rattle.f3_code.specs.Machine.{selector_of}
use Rattle.f3_cells.specs.Cells.{association_of}
use Rattle.f3_cells.proofs.SoFar.{SoFar}
use Rattle.f3_cells.proofs.many.pop_selectors.Given as goal

abbrev pub invariant-loop-i : goal.invariant-loop-i
invariant-loop-i l = SoFar association_of selector_of l.count l._i l.initial.stack.items l.stack.items l.found.items
