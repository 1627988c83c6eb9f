use Rattle.std.proofs.Common.{length, map}
use Rattle.f3_tree.specs.Expressions.{designator_view}
use Rattle.f3_actions.proofs.Objects.{SoFar}
use Rattle.f3_actions.proofs.allocations.objects.Given as goal

abbrev pub invariant-elements : goal.invariant-elements
invariant-elements l = SoFar l.items (map designator_view l.found.items) l.rest

abbrev pub decreases-elements : goal.decreases-elements
decreases-elements l = length l.rest
