use Rattle.f3_code.specs.Machine.{argument_of}
use Rattle.f3_cells.specs.Cells.{passed_of}
use Rattle.f3_cells.proofs.SoFar.{SoFar}
use Rattle.f3_cells.proofs.many.pop_arguments.Given as goal

abbrev pub invariant-loop-i : goal.invariant-loop-i
invariant-loop-i l = SoFar passed_of argument_of l.count l._i l.initial.stack.items l.stack.items l.found.items
