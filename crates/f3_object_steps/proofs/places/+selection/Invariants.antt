use Rattle.std.proofs.Common.{length}
use Rattle.f3_object_steps.proofs.places.+selection.Given as goal

abbrev pub decreases-selection : goal.decreases-selection
decreases-selection l = length l.spans.now
