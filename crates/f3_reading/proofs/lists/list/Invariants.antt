use Rattle.std.proofs.Common.{length}
use Rattle.std.specs.Fn.{FnReturnsAt}
use Rattle.f3_reading.proofs.Elements.{Until}
use Rattle.f3_reading.proofs.lists.list.Given as goal

abbrev pub invariant-elements : goal.invariant-elements
invariant-elements g l = Until (FnReturnsAt g.F.Fn l.element) l.items l.found.items l.rest

abbrev pub decreases-elements : goal.decreases-elements
decreases-elements g l = length l.rest
