use Rattle.std.proofs.Common.{None, length}
use Rattle.std.specs.List.{FoldsTo}
use Rattle.std.specs.Fn.{FnReturnsAt}
use Rattle.f3_breaks.specs.Among.{FindsAt}
use Rattle.f3_breaks.proofs.along.first_among.Given as goal

abbrev pub invariant-loop-item : goal.invariant-loop-item
invariant-loop-item g l =
    goal.F-IsAlwaysCallable g l.find
    × ((last : _) → FoldsTo (FindsAt (FnReturnsAt g.F.Fn l.find)) l.first l.left last → FoldsTo (FindsAt (FnReturnsAt g.F.Fn l.find)) None l.items last)

abbrev pub decreases-loop-item : goal.decreases-loop-item
decreases-loop-item g l = length l.left
