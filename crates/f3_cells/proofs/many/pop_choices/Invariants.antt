use Rattle.f3_code.specs.Machine.{choice_of}
use Rattle.f3_cells.specs.Cells.{chosen_of}
use Rattle.f3_cells.proofs.SoFar.{SoFar}
use Rattle.f3_cells.proofs.many.pop_choices.Given as goal

abbrev pub invariant-loop-i : goal.invariant-loop-i
invariant-loop-i l = SoFar chosen_of choice_of l.count l._i l.initial.stack.items l.stack.items l.found.items
