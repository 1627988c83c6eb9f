use Rattle.std.proofs.Common.{length}
use Rattle.f3_declarations.proofs.Prefixes.{SoFar}
use Rattle.f3_declarations.proofs.procedures.all_prefixes.Given as goal

abbrev pub invariant-elements : goal.invariant-elements
invariant-elements l = SoFar l.items l.found l.rest

abbrev pub decreases-elements : goal.decreases-elements
decreases-elements l = length l.rest
